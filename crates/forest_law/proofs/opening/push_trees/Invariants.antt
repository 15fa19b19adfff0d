use Rattle.forest_law.specs.declared.objects.Object.TheVariants as object
use Rattle.forest_law.specs.Opening.{first_tree, AddsEach}
use Rattle.forest_law.proofs.opening.push_trees.Given as goal

abbrev pub invariant-loop-index : goal.invariant-loop-index
invariant-loop-index l =
    AddsEach l.initial.objects.items l.objects.items l.index (λ i. object.Tree (first_tree i))
