use Rattle.std.proofs.Common.{[], arith, sym, ap, subst}
use Rattle.index_law.specs.Shape.{Shape}
use Rattle.forest_law.specs.Opening.{first_image, AddsEach}
use Rattle.forest_law.proofs.AddsLemmas.{adds_none, adds_one}
use Rattle.forest_law.proofs.opening.first_images.Goals as goal

pub loop-n-preserved : goal.loop-n-preserved
loop-n-preserved c =
    adds_one [] (first_image c.args.layout.now) c.loop-n.images.items c.push.new.self.items
    c.loop-n.n c.in_ok-first_image.field-0 c.loop-n.invariant c.in_ok-first_image.ensures
    c.in_ok-push.ensures.items

pub returns : goal.returns
returns c = let pages = ap (λ (z : Shape). z.pages) c.layout.view_is in
    let past = c.loop-n-test.false in let within = c.loop-n.auto.n-end in
    subst (λ n. AddsEach [] c.loop-n.images.items n (first_image c.args.layout.now))
    (omega (arith, past, within, pages)) c.loop-n.invariant

pub loop-n-init : goal.loop-n-init
loop-n-init c = subst (λ xs. AddsEach [] xs 0 (first_image c.args.layout.now))
    (sym c.new-images.ensures.items) (adds_none [] (first_image c.args.layout.now))
