use Rattle.std.proofs.Common.{◌<◌, Some, ap, sym, subst, ◌∙◌, refl}
use Rattle.hash_law.specs.Blocks.{part_for}
use Rattle.forest_world.specs.Held.{shape_of_pass}
use Rattle.buffer_pool.specs.Parts.{HoldsPartIf, part_of_index}
use Rattle.buffer_pool.proofs.PartLemmas.{part_below, took_free, took_part}
use Rattle.buffer_pool.proofs.parts.hold_part_for.Goals as goal

pub returns-clause-held : goal.returns-clause-held
returns-clause-held g c = let p = c.args.pass.now in let q = c.hold_part.new.pass in
    let k = c.part_for-part.result in
    let below : k < (shape_of_pass p).parts =
    part_below p c.shape.result.now c.args.space.now.terms.shape k c.in_ok-hashed.field-0
    c.fits.ensures c.shape.ensures (ap (λ t. t.shape) c.requires.own.1.1) c.part_for-part.ensures
    in
    took_part p q k below c.requires.known
    (took_free p q k c.hold_part.result (c.requires.parts k below) c.hold_part.ensures.took
    c.hold_part.ensures.held)

pub hold_part-requires-clause-there : goal.hold_part-requires-clause-there
hold_part-requires-clause-there g c =
    part_below c.args.pass.now c.shape.result.now c.args.space.now.terms.shape
    c.part_for-part.result c.in_ok-hashed.field-0 c.fits.ensures c.shape.ensures
    (ap (λ t. t.shape) c.requires.own.1.1) c.part_for-part.ensures

pub returns-in_err-hashed-clause-held : goal.returns-in_err-hashed-clause-held
returns-in_err-hashed-clause-held g c =
    subst (λ k. HoldsPartIf c.args.pass.now k c.args.pass.now) (sym c.from_residual.ensures) refl

pub returns-clause-named : goal.returns-clause-named
returns-clause-named g c = let shape = shape_of_pass c.args.pass.now in
    ap Some (c.part_for-part.ensures ∙ ap (λ s. part_for s.parts c.in_ok-hashed.field-0)
    (c.shape.ensures ∙ sym (ap (λ t. t.shape) c.requires.own.1.1)))
    ∙ sym (ap (part_of_index shape) c.in_ok-hashed.was)
