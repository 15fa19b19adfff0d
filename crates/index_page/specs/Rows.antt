-- The rows of a page.
use Rattle.std.specs.Prelude.{ℕ, ◌≡◌, ◌≢◌, ◌==◌, Option, Some, None, if◌then◌else◌, List, [], ◌∷◌}
use Rattle.std.specs.List.{AllByRecursion}
use Rattle.key_tuple.specs.Order.{FieldList}
use Rattle.index_page.specs.declared.body.Body.{Body}
use Rattle.index_page.specs.declared.body.Body.TheVariants as by

-- what a row carries beside its key: a value's bytes, or the number of a child page
pub data RowBody : Type 0 where
  Bytes : List ℕ → RowBody
  Child : ℕ → RowBody

-- a row at a place of its page
pub record Row : Type 0 where
  pub place : ℕ
  pub key : FieldList
  pub body : RowBody

-- what a lent body says
abbrev pub body_by : Body → RowBody
body_by (by.Value value) = Bytes value.now
body_by (by.Child number) = Child number

-- a row with its three parts
abbrev pub placed_row : ℕ → FieldList → RowBody → Row
placed_row place key body = record { place = place; key = key; body = body }

-- the row that stands at a place
abbrev pub find_row : ℕ → List Row → Option Row
find_row place [] = None
find_row place (x ∷ xs) = if x.place == place then Some x else find_row place xs

-- the first of some rows
abbrev pub first_of_rows : List Row → Option Row
first_of_rows [] = None
first_of_rows (x ∷ xs) = Some x

-- the last of a row and those after it
abbrev pub last_row_after : Row → List Row → Row
last_row_after x [] = x
last_row_after x (y ∷ ys) = last_row_after y ys

-- the last of some rows
abbrev pub last_of_rows : List Row → Option Row
last_of_rows [] = None
last_of_rows (x ∷ xs) = Some (last_row_after x xs)

-- this is the place of that row among the rows; no place where there is no row
abbrev pub IsAt : List Row → Option ℕ → Option Row → Type 0
IsAt rows place None = place ≡ None
IsAt rows place (Some row) = (place ≡ Some row.place) × (find_row row.place rows ≡ Some row)

-- no row has this key
abbrev pub LacksKey : FieldList → List Row → Type 0
LacksKey key rows = AllByRecursion (λ (x : Row). x.key ≢ key) rows

-- rows with the same keys that carry the same, in the same order, at whatever places
abbrev pub SameRows : List Row → List Row → Type 0
SameRows [] [] = Unit {0}
SameRows [] (y ∷ ys) = ⊥
SameRows (x ∷ xs) [] = ⊥
SameRows (x ∷ xs) (y ∷ ys) = (x.key ≡ y.key) × (x.body ≡ y.body) × SameRows xs ys
