use Rattle.std.proofs.Common.{[]}
use Rattle.forest_law.specs.Opening.{first_where, AddsEach}
use Rattle.forest_law.proofs.opening.first_places.Given as goal

abbrev pub invariant-loop-n : goal.invariant-loop-n
invariant-loop-n l = AddsEach [] l.place.items l.n (first_where l.layout.indexes)
