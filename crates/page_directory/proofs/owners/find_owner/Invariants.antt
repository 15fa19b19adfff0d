use Rattle.std.proofs.Common.{◌+◌, ◌≤◌, List, ℕ, length, slice_index}
use Rattle.page_mirror.specs.Mirror.{Mirror}
use Rattle.page_mirror.specs.Steps.{HasOrigin}
use Rattle.page_directory.specs.Groups.{Group}
use Rattle.page_directory.specs.Owners.{IsRecordOf, LeadsToOwner}
use Rattle.page_directory.proofs.owners.find_owner.Given as goal

abbrev pub invariant-loop : goal.invariant-loop
invariant-loop l =
    (m : Mirror) (gs : List Group) (free : List ℕ) (s h : ℕ) → IsRecordOf l.page m gs free s h l.fn.at
    → (rest : List ℕ) × (k : ℕ) × HasOrigin l.page m k l.owner × LeadsToOwner m rest (slice_index m.slots s) k × (length rest + l.counter ≤ 8)
