use Rattle.hash_partition.specs.Part.{empty_part}
use Rattle.forest_law.specs.declared.objects.Object.TheVariants as object
use Rattle.forest_law.specs.Opening.{AddsEach}
use Rattle.forest_law.proofs.opening.push_parts.Given as goal

abbrev pub invariant-loop-part : goal.invariant-loop-part
invariant-loop-part l = AddsEach l.initial.objects.items l.objects.items l._part
    (λ k. object.Part (empty_part l.layout.nodes l.layout.blocks))
