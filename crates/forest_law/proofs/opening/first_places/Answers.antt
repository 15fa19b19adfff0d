use Rattle.std.proofs.Common.{[], arith, ap, subst, ◌∙◌}
use Rattle.index_law.specs.Shape.{Shape}
use Rattle.forest_law.specs.Opening.{first_where, AddsEach}
use Rattle.forest_law.proofs.AddsLemmas.{adds_one}
use Rattle.forest_law.proofs.opening.first_places.Goals as goal

pub loop-n-preserved : goal.loop-n-preserved
loop-n-preserved c =
    adds_one [] (first_where c.args.layout.now.indexes) c.loop-n.place.items c.push.new.self.items
    c.loop-n.n c.first_where.result c.loop-n.invariant
    (c.first_where.ensures
    ∙ ap (λ (z : Shape). first_where z.indexes c.loop-n.n) c.layout.view_is)
    c.in_ok-push.ensures.items

pub returns : goal.returns
returns c = let pages = ap (λ (z : Shape). z.pages) c.layout.view_is in
    let past = c.loop-n-test.false in let within = c.loop-n.auto.n-end in
    subst (λ n. AddsEach [] c.loop-n.place.items n (first_where c.args.layout.now.indexes))
    (omega (arith, past, within, pages)) c.loop-n.invariant
