use Rattle.std.proofs.Common.{[]}
use Rattle.forest_law.specs.Opening.{first_image, AddsEach}
use Rattle.forest_law.proofs.opening.first_images.Given as goal

abbrev pub invariant-loop-n : goal.invariant-loop-n
invariant-loop-n l = AddsEach [] l.images.items l.n (first_image l.layout)
