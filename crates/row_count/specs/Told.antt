-- The changes that a log tells.
use Rattle.std.specs.Prelude.{List}
use Rattle.std.specs.List.{flat_map}
use Rattle.std.specs.Option.{option_to_list}
use Rattle.map_history.specs.Map.{MapChange}
use Rattle.map_history.specs.Operation.{Ask, change_asked}
use Rattle.change_log.specs.Log.{ChangeNote}

-- the change that is asked for, if one is
abbrev pub asked_for : Ask → List MapChange
asked_for ask = option_to_list (change_asked ask)

-- the changes of some notes, in their order
abbrev pub changes_told : List ChangeNote → List MapChange
changes_told notes = flat_map (λ (note : ChangeNote). asked_for note.line.op.ask) notes
