-- Rows that are stored by their places.
use Rattle.std.specs.Prelude.{ℕ, suc, ◌≡◌, ◌≢◌, ◌<◌, ◌+◌, Option, Some, None, List, [], ◌∷◌, ◌++◌, length, take, drop, map, slice_get, slice_index_or}
use Rattle.std.specs.List.{AllByRecursion}
use Rattle.key_tuple.specs.Order.{FieldList}
use Rattle.index_page.specs.declared.body.Beside.{Beside}
use Rattle.index_page.specs.declared.body.Beside.TheVariants as by
use Rattle.index_page.specs.Rows.{RowBody, Bytes, Child, Row, SameRows, placed_row}
use Rattle.index_page.specs.Page.{PlacesDiffer}

-- the places of rows in their order, and the vacant ones
pub record PlaceLists : Type 0 where
  pub live : List ℕ
  pub free : List ℕ

-- what is stored at a place
pub record Content : Type 0 where
  pub key : FieldList
  pub body : RowBody

-- a value, unless there is a child
abbrev pub body_from : List ℕ → Option ℕ → RowBody
body_from value None = Bytes value
body_from value (Some number) = Child number

-- what is borrowed from wherever it stands
abbrev pub beside_by : Beside → RowBody
beside_by (by.Value bytes) = Bytes bytes.now
beside_by (by.Child number) = Child number

-- the row that is stored at a place
abbrev pub stored_row : List Content → ℕ → Row
stored_row slots place =
    let found = slice_index_or slots place (record { key = []; body = Bytes [] }) in
    placed_row place found.key found.body

-- the rows at these places
abbrev pub rows_in : List Content → List ℕ → List Row
rows_in slots live = map (stored_row slots) live

-- no number stands twice
abbrev pub AllDiffer : List ℕ → Type 0
AllDiffer [] = Unit {0}
AllDiffer (x ∷ xs) = AllByRecursion (λ (y : ℕ). y ≢ x) xs × AllDiffer xs

-- each place is listed once, as that of a row or as vacant, and has a slot
pub record IsStore (slots : List Content) (places : PlaceLists) : Type 0 where
  pub differ : AllDiffer (places.live ++ places.free)
  pub slotted : AllByRecursion (λ (y : ℕ). y < length slots) (places.live ++ places.free)
  pub whole : length slots ≡ length places.live + length places.free

-- this is the vacant place that is taken next
pub record IsSpare (places : PlaceLists) (place : ℕ) : Type 0 where
  pub rest : List ℕ
  pub free : places.free ≡ rest ++ place ∷ []

-- the same rows as the others stand behind those that were there, at places of their own
pub record Appends (old new others : List Row) : Type 0 where
  pub moved : List Row
  pub rows : new ≡ old ++ moved
  pub same : SameRows others moved
  pub differ : PlacesDiffer new

-- the row with this number carries a value
pub record HasValueAt (rows : List Row) (at : ℕ) : Type 0 where
  pub row : Row
  pub value : List ℕ
  pub there : slice_get rows at ≡ Some row
  pub is : row.body ≡ Bytes value

-- the row with this number carries this value, at its place; all else is as before
pub record Rewrites (old new : List Row) (at : ℕ) (bytes : List ℕ) : Type 0 where
  pub row : Row
  pub there : slice_get old at ≡ Some row
  pub is : new ≡ take at old ++ placed_row row.place row.key (Bytes bytes) ∷ drop (suc at) old
