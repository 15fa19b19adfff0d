use Rattle.forest_law.specs.declared.objects.Object.TheVariants as object
use Rattle.forest_law.specs.Opening.{first_frame, AddsEach}
use Rattle.forest_law.proofs.opening.push_frames.Given as goal

abbrev pub invariant-loop-block : goal.invariant-loop-block
invariant-loop-block l =
    AddsEach l.initial.objects.items l.objects.items l.block
    (λ b. object.Frame (first_frame l.initial.clock))
