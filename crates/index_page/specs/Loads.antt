-- What a page is charged for its rows.
use Rattle.std.specs.Prelude.{ℕ, ◌<◌, ◌≤◌, List, length, take, drop, max, sum_by}
use Rattle.key_tuple.specs.Order.{FieldList}
use Rattle.key_tuple.specs.Sizes.{row_size_of, pointer_size_of, charge}
use Rattle.index_page.specs.Rows.{RowBody, Bytes, Child, Row}

-- what a page is charged for a record: its size, and one byte of the directory
abbrev pub charge_of : FieldList → RowBody → ℕ
charge_of key (Bytes value) = charge (row_size_of key value)
charge_of key (Child number) = charge (pointer_size_of key)

-- the load of a page: the charges of its rows together
abbrev pub load_of : List Row → ℕ
load_of rows = sum_by (λ (x : Row). charge_of x.key x.body) rows

-- the larger load of the two parts that a cut after the first k rows leaves
abbrev pub larger_part : List Row → ℕ → ℕ
larger_part rows k = max (load_of (take k rows)) (load_of (drop k rows))

-- the first of the cuts whose larger part is least; it leaves rows on both sides
pub record HalvesRows (rows : List Row) (k : ℕ) : Type 0 where
  pub some_left : 0 < k
  pub some_right : k < length rows
  pub least : (j : ℕ) → j ≤ length rows → larger_part rows k ≤ larger_part rows j
  pub first : (j : ℕ) → j < k → larger_part rows k < larger_part rows j
