use Rattle.forest_law.specs.declared.objects.Object.TheVariants as object
use Rattle.forest_law.specs.Opening.{first_tree}
use Rattle.forest_law.proofs.AddsLemmas.{adds_none, adds_one, adds_all}
use Rattle.forest_law.proofs.opening.push_trees.Goals as goal
use Rattle.std.proofs.Common.{refl}

pub loop-index-preserved : goal.loop-index-preserved
loop-index-preserved c =
    adds_one c.args.objects.now.items (λ i. object.Tree (first_tree i)) c.loop-index.objects.items
    c.push.new.self.items c.loop-index.index (object.Tree (first_tree c.loop-index.index))
    c.loop-index.invariant refl c.in_ok-push.ensures.items

pub returns : goal.returns
returns c =
    adds_all c.args.objects.now.items (λ i. object.Tree (first_tree i)) c.loop-index.objects.items
    c.loop-index.index c.args.indexes c.args.indexes c.loop-index.invariant
    c.loop-index.auto.index-end c.loop-index-test.false refl

pub loop-index-init : goal.loop-index-init
loop-index-init c = adds_none c.args.objects.now.items (λ i. object.Tree (first_tree i))
