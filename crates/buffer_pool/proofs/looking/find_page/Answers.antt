use Rattle.std.proofs.Common.{length, sym, ap, ◌∙◌, refl, arith}
use Rattle.forest_law.specs.State.{where_at}
use Rattle.latch_space.specs.Passes.{view}
use Rattle.buffer_pool.proofs.CallLemmas.{pool_has}
use Rattle.buffer_pool.proofs.KnownLemmas.{places_counted}
use Rattle.buffer_pool.proofs.VictimLemmas.{tries_none}
use Rattle.buffer_pool.proofs.looking.find_page.Goals as goal

pub pool-requires : goal.pool-requires
pool-requires g c = let h = c.requires.pool in
    (h.1, h.1, pool_has c.args.pass.now c.requires.known h.0 h.1 h.2)

pub place_of-requires : goal.place_of-requires
place_of-requires g c = let h = c.requires.pool in let f = c.fits.ensures in
    let counted = places_counted f.whole f.is_lawful (view c.args.pass.now) f.fits h.0 h.1 h.2 in
    let same = ap (λ z. length z.place.items) (c.pool.ensures h.1 h.1
    (pool_has c.args.pass.now c.requires.known h.0 h.1 h.2)) in
    let there = c.requires.there in omega (arith, counted, same, there)

pub hold_named-requires-clause-pool : goal.hold_named-requires-clause-pool
hold_named-requires-clause-pool g c = let h = c.requires.pool in
    let same = ap (λ z. where_at z.place.items c.args.page) (c.pool.ensures h.1 h.1
    (pool_has c.args.pass.now c.requires.known h.0 h.1 h.2)) in
    (h.0, h.1, h.2, sym same ∙ (sym c.place_of.ensures ∙ c.in-InFrame.is))

pub hold_image-requires-clause-pool : goal.hold_image-requires-clause-pool
hold_image-requires-clause-pool g c = let h = c.requires.pool in
    let same = ap (λ z. where_at z.place.items c.args.page) (c.pool.ensures h.1 h.1
    (pool_has c.args.pass.now c.requires.known h.0 h.1 h.2)) in
    (h.0, h.1, h.2, sym same ∙ (sym c.place_of.ensures ∙ c.in-Image.is))

pub returns-in-Free-clause-did : goal.returns-in-Free-clause-did
returns-in-Free-clause-did g c = λ t x held.
    let same = ap (λ z. where_at z.place.items c.args.page) (c.pool.ensures x x
    (pool_has c.args.pass.now c.requires.known t x held)) in
    record {
      vain = record { tries = tries_none c.args.pass.now c.requires.known; count = refl };
      free = sym same ∙ (sym c.place_of.ensures ∙ c.in-Free.is);
    }

pub returns-in-Free-clause-own : goal.returns-in-Free-clause-own
returns-in-Free-clause-own g c = ((refl, refl), c.requires.own.1)

pub returns-in-Free-clause-fits : goal.returns-in-Free-clause-fits
returns-in-Free-clause-fits g c = c.fits.ensures

pub returns-in-InFrame-clause-own : goal.returns-in-InFrame-clause-own
returns-in-InFrame-clause-own g c = c.hold_named.ensures.own

pub returns-in-InFrame-clause-did : goal.returns-in-InFrame-clause-did
returns-in-InFrame-clause-did g c = c.hold_named.ensures.did

pub returns-in-InFrame-clause-fits : goal.returns-in-InFrame-clause-fits
returns-in-InFrame-clause-fits g c = c.hold_named.ensures.fits

pub returns-in-Image-clause-own : goal.returns-in-Image-clause-own
returns-in-Image-clause-own g c = c.hold_image.ensures.own

pub returns-in-Image-clause-did : goal.returns-in-Image-clause-did
returns-in-Image-clause-did g c = c.hold_image.ensures.did

pub returns-in-Image-clause-fits : goal.returns-in-Image-clause-fits
returns-in-Image-clause-fits g c = c.hold_image.ensures.fits
