-- What is printed of a change.
use Rattle.std.specs.Prelude.{ℕ, ◌≡◌, ◌+◌, Option, Some, List, map}
use Rattle.std.specs.List.{slice_get, flat_map}
use Rattle.std.specs.Option.{option_map, option_to_list}
use Rattle.map_history.specs.Map.{MapChange}
use Rattle.map_history.specs.Operation.{change_asked}
use Rattle.map_history.specs.Report.{ChangeLine}
use Rattle.change_log.specs.Log.{ChangeNote}

-- the entry of a change, if its line asks for one
abbrev pub printed_entry : ChangeNote → Option ChangeLine
printed_entry note = option_map
    (λ (c : MapChange). record { lane = note.lane; line = note.line.line; change = c })
    (change_asked note.line.op.ask)

-- the entries of some changes
abbrev pub printed_entries : List ChangeNote → List ChangeLine
printed_entries notes = flat_map (λ (note : ChangeNote). option_to_list (printed_entry note)) notes

-- the entries are those of the changes, one of each
abbrev pub ArePrinted : List ChangeNote → List ChangeLine → Type 0
ArePrinted notes entries = map printed_entry notes ≡ map Some entries

-- the changes are numbered from 1, in their order
abbrev pub AreCountedUp : List ChangeNote → Type 0
AreCountedUp notes = (n : ℕ) (note : ChangeNote) → slice_get notes n ≡ Some note
    → note.number ≡ n + 1
