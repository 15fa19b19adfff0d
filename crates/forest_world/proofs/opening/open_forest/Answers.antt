use Rattle.std.proofs.Common.{length, sym, subst, refl}
use Rattle.latch_law.specs.Opening.{opened}
use Rattle.index_law.specs.Shape.{Shape, shape_for}
use Rattle.forest_law.specs.Law.{IsLawful}
use Rattle.forest_law.specs.Opening.{AreFirstObjects}
use Rattle.forest_world.proofs.opening.open_forest.Goals as goal

pub open-requires-clause-lawful : goal.open-requires-clause-lawful
open-requires-clause-lawful c = let fields = c.args.fields.now in
    let objects = c.in_ok-objects.objects.items in let most = c.from-most.result in
    let first = subst (λ (s : Shape). AreFirstObjects s c.args.clock objects) c.in_ok-layout.ensures
    c.in_ok-objects.ensures in
    subst (λ (s : Shape). IsLawful (opened s objects (length fields) most c.args.passes))
    (sym c.in_ok-layout.ensures)
    (c.forests_open_lawfully.ensures (shape_for c.args.sizes.now fields) c.args.clock objects most
    c.args.passes refl c.requires.room c.requires.hash first)
