-- Rows that lie in one buffer.
use Rattle.std.specs.Prelude.{ℕ, ◌≡◌, ◌<◌, List, [], ◌∷◌, length, drop, map, slice_index_or}
use Rattle.std.specs.List.{AllByRecursion}
use Rattle.key_tuple.specs.Order.{FieldList}
use Rattle.key_tuple.specs.Parts.{parts}
use Rattle.map_history.specs.Map.{Pair, Map}

-- the offsets climb from `from`, each above the one before, and the last is `to`
abbrev pub ClimbTo : ℕ → List ℕ → ℕ → Type 0
ClimbTo from [] to = from ≡ to
ClimbTo from (end ∷ ends) to = (from < end) × ClimbTo end ends to

-- a row whose value is the first part, and whose fields are the others
abbrev pub row_of_parts : FieldList → Pair
row_of_parts lists = record { key = drop 1 lists; value = slice_index_or lists 0 [] }

-- the rows that these parts are, by the offsets of their ends
abbrev pub rows_of_parts : FieldList → List ℕ → Map
rows_of_parts lists ends = map row_of_parts (parts lists 0 ends)

-- the row at a place; past the end one of nothing
abbrev pub row_at : Map → ℕ → Pair
row_at m i = slice_index_or m i (record { key = []; value = [] })

-- the row of a key and a value
abbrev pub row_from : FieldList → List ℕ → Pair
row_from key value = record { key = key; value = value }

-- its fields are few and short enough to be read one by one
pub record IsReadable (row : Pair) : Type 0 where
  pub few : length row.key < 256
  pub short : AllByRecursion (λ field. length field < 65536) row.key

-- each row has a part, the last row ends with the last part, and each row can be read
pub record AreRows (lists : FieldList) (ends : List ℕ) : Type 0 where
  pub climb : ClimbTo 0 ends (length lists)
  pub readable : AllByRecursion IsReadable (rows_of_parts lists ends)
