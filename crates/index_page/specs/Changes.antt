-- What stands beside a row, and what a page is after a row was put in or taken out.
use Rattle.std.specs.Prelude.{ℕ, ◌≡◌, ◌≤◌, ◌==◌, not, Option, Some, None, List, ◌∷◌, ◌++◌, length}
use Rattle.std.specs.List.{filter}
use Rattle.index_page.specs.Rows.{Bytes, Row, placed_row, find_row, first_of_rows, last_of_rows, IsAt}
use Rattle.index_page.specs.Page.{PageRows}

-- the place of the row after the one at `place`
pub record NextIs (rows : List Row) (place : ℕ) (next : Option ℕ) : Type 0 where
  pub left : List Row
  pub row : Row
  pub right : List Row
  pub split : rows ≡ left ++ row ∷ right
  pub place_is : row.place ≡ place
  pub next_at : IsAt rows next (first_of_rows right)

-- the place of the row before the one at `place`
pub record PrevIs (rows : List Row) (place : ℕ) (prev : Option ℕ) : Type 0 where
  pub left : List Row
  pub row : Row
  pub right : List Row
  pub split : rows ≡ left ++ row ∷ right
  pub place_is : row.place ≡ place
  pub prev_at : IsAt rows prev (last_of_rows left)

-- the places of the rows before and after the one at `place`
pub record IsBeside (rows : List Row) (place : ℕ) (prev next : Option ℕ) : Type 0 where
  pub left : List Row
  pub row : Row
  pub right : List Row
  pub split : rows ≡ left ++ row ∷ right
  pub place_is : row.place ≡ place
  pub prev_at : IsAt rows prev (last_of_rows left)
  pub next_at : IsAt rows next (first_of_rows right)

-- the row stands among those that were there, at a place at which none stood; all else is as before
pub record Inserts (old new : PageRows) (row : Row) : Type 0 where
  pub below : List Row
  pub above : List Row
  pub was : old.rows ≡ below ++ above
  pub is : new.rows ≡ below ++ row ∷ above
  pub head : new.head ≡ old.head
  pub vacant : find_row row.place old.rows ≡ None
  pub stands : find_row row.place new.rows ≡ Some row

-- the row at this place is gone; all else is as before
pub record Deletes (old new : PageRows) (place : ℕ) : Type 0 where
  pub left : List Row
  pub row : Row
  pub right : List Row
  pub was : old.rows ≡ left ++ row ∷ right
  pub place_is : row.place ≡ place
  pub is : new.rows ≡ left ++ right
  pub head : new.head ≡ old.head

-- the row that stood at `place` stands at `other` with this value, and where that is no longer than
-- the value before, it stays; all else is as before
pub record Sets (old new : PageRows) (place other : ℕ) (value : List ℕ) : Type 0 where
  pub left : List Row
  pub row : Row
  pub right : List Row
  pub was : old.rows ≡ left ++ row ∷ right
  pub place_is : row.place ≡ place
  pub is : new.rows ≡ left ++ placed_row other row.key (Bytes value) ∷ right
  pub stands : find_row other new.rows ≡ Some (placed_row other row.key (Bytes value))
  pub in_place : (before : List ℕ) → row.body ≡ Bytes before → length value ≤ length before
      → other ≡ place
  pub head : new.head ≡ old.head

-- the rows but for the one at a place
abbrev pub rows_without : ℕ → List Row → List Row
rows_without place rows = filter (λ (x : Row). not (x.place == place)) rows

-- the page without the row at a place
abbrev pub page_without : ℕ → PageRows → PageRows
page_without place page = record page { rows = rows_without place page.rows }
