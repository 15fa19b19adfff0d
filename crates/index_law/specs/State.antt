-- The lists of changes of a space of indexes.
use Rattle.std.specs.Prelude.{ℕ, List, map, sum_by, count_by}
use Rattle.latch_law.specs.declared.knows.Entry.{Entry}
use Rattle.map_history.specs.Map.{MapChange, writes}
use Rattle.index_law.specs.Answers.{MadeChange}

-- the list of changes of an index, with their makers
abbrev pub Entries : Type 0
Entries = List (Entry MadeChange)

-- the changes of a list
abbrev pub changes : Entries → List MapChange
changes xs = map (λ (e : Entry MadeChange). e.change.change) xs

-- how many changes of a list write a row: its puts and sets
abbrev pub written_in : Entries → ℕ
written_in xs = count_by (λ (e : Entry MadeChange). writes e.change.change) xs

-- and how many changes of all lists do
abbrev pub written_in_all : List Entries → ℕ
written_in_all lists = sum_by written_in lists
