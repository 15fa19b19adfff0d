-- Rows that are read.
use Rattle.std.specs.Prelude.{ℕ, Option, List, [], ◌∷◌}
use Rattle.key_tuple.specs.FieldsWithRoom.{FieldsWithRoom}
use Rattle.map_history.specs.Map.{Pair}
use Rattle.report_forms.specs.Scans.{row_told}

-- the row of a key and a value
abbrev pub row_seen : FieldsWithRoom × List ℕ → Pair
row_seen row = record { key = row.0.tuple; value = row.1 }

-- the row that the words behind the first tell
abbrev pub row_in : List (List ℕ) → Option Pair
row_in words = row_told ([] ∷ words)
