-- Where the rows of a leaf begin that a cursor has before it.
use Rattle.std.specs.Prelude.{ℕ, ◌≡◌, true, false, Option, List, ◌++◌}
use Rattle.std.specs.List.{AllByRecursion}
use Rattle.key_tuple.specs.KeyPlace.{KeyPlace, At, before}
use Rattle.index_page.specs.Rows.{Row, first_of_rows, IsAt}
use Rattle.scan_law.specs.AfterKey.{place_at}
use Rattle.tree_cursor.specs.declared.cursor.Cursor.{Cursor}

-- where the cursor stands in the order of keys
abbrev pub place_of : Cursor → KeyPlace
place_of c = place_at c.key.tuple c.after

-- the rows are those before the place and the others, of which the first, if there is one, is at
-- `start`
pub record BeginsAt (rows : List Row) (place : KeyPlace) (start : Option ℕ) : Type 0 where
  pub fore : List Row
  pub on : List Row
  pub split : rows ≡ fore ++ on
  pub sooner : AllByRecursion (λ (x : Row). before (At x.key) place ≡ true) fore
  pub later : AllByRecursion (λ (x : Row). before (At x.key) place ≡ false) on
  pub at : IsAt rows start (first_of_rows on)
