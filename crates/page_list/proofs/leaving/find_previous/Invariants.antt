use Rattle.std.proofs.Common.{◌+◌, ◌≤◌, List, ℕ, length}
use Rattle.page_mirror.specs.Mirror.{Mirror}
use Rattle.page_mirror.specs.Steps.{HasOrigin}
use Rattle.page_directory.specs.Groups.{Group}
use Rattle.page_list.specs.Leaving.{Between, GroupAround, IsAround, LeadsToPrevious}
use Rattle.page_list.proofs.leaving.find_previous.Given as goal

abbrev pub invariant-loop : goal.invariant-loop
invariant-loop l =
    (m : Mirror) (gs : List Group) (free : List ℕ) (b : Between) (w : GroupAround gs b) → IsAround l.page m gs free b w l.slot l.at
    → (rest : List ℕ) × (k : ℕ) × HasOrigin l.page m k l.before × LeadsToPrevious m rest b.p b.here k × (length rest + l.counter ≤ 8)
