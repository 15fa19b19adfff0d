-- Which of the statistics' numbers a word raises.
use Rattle.std.specs.Prelude.{ℕ, ◌+◌, Option, Some, None, List, slice_set}
use Rattle.std.specs.List.{slice_index_or}
use Rattle.map_history.specs.declared.columns.How.{How}
use Rattle.map_history.specs.declared.columns.How.TheVariants as how
use Rattle.map_history.specs.declared.columns.Note.{Note}
use Rattle.map_history.specs.declared.columns.Note.TheVariants as note

-- the place of a word of the first column among the counted words, if it is one
abbrev pub how_place : How → Option ℕ
how_place how.Dash = None
how_place how.Hit = Some 0
how_place how.Off = Some 1
how_place how.Cold = Some 2
how_place how.Short = Some 3
how_place how.PartBusy = Some 4
how_place how.NoEntry = Some 5
how_place how.BlockBusy = Some 6
how_place how.Clock = Some 7
how_place how.Unequal = Some 8
how_place how.ByClock = Some 9
how_place how.ByBusy = Some 10
how_place how.ByMoved = Some 11
how_place how.ByLast = Some 12

-- the place of a word of the second column
abbrev pub note_place : Note → Option ℕ
note_place note.Dash = None
note_place note.No = None
note_place note.Built = Some 13
note_place note.Same = Some 14
note_place note.Arena = Some 15
note_place note.Raced = Some 16
note_place note.Worn = Some 17

-- the numbers, of which the one at a place, if there is one, is raised by one
abbrev pub raised_at : Option ℕ → List ℕ → List ℕ
raised_at None numbers = numbers
raised_at (Some i) numbers = slice_set numbers i (slice_index_or numbers i 0 + 1)
