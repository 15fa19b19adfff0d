use Rattle.std.proofs.Common.{◌≤◌, List, ℕ}
use Rattle.page_mirror.specs.Mirror.{Mirror}
use Rattle.page_directory.specs.Groups.{Group}
use Rattle.page_directory.specs.Owners.{IsOwnerOf}
use Rattle.page_directory.proofs.owners.find_slot.Given as goal

abbrev pub invariant-loop-slot : goal.invariant-loop-slot
invariant-loop-slot l =
    (m : Mirror) (gs : List Group) (free : List ℕ) (s : ℕ) → IsOwnerOf l.page m gs free s l.owner → l.slot ≤ s
