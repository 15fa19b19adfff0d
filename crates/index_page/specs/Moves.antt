-- Rows that move from page to page.
use Rattle.std.specs.Prelude.{ℕ, ◌≡◌, List, [], ◌∷◌, ◌++◌}
use Rattle.index_page.specs.Rows.{Row, SameRows}
use Rattle.index_page.specs.Page.{PageRows}

-- the rows from the one at `first` on went in their order to a page that had none, at places
-- there; the others keep theirs, and both pages their heads
pub record MovesTail (old new to_old to_new : PageRows) (first : ℕ) : Type 0 where
  pub left : List Row
  pub row : Row
  pub right : List Row
  pub was : old.rows ≡ left ++ row ∷ right
  pub place_is : row.place ≡ first
  pub stay : new.rows ≡ left
  pub go : SameRows (row ∷ right) to_new.rows
  pub head : new.head ≡ old.head
  pub to_head : to_new.head ≡ to_old.head

-- all rows went in their order behind those of the other page, which keep their places; both
-- pages keep their heads
pub record MovesAll (old new to_old to_new : PageRows) : Type 0 where
  pub moved : List Row
  pub gone : new.rows ≡ []
  pub behind : to_new.rows ≡ to_old.rows ++ moved
  pub same : SameRows old.rows moved
  pub head : new.head ≡ old.head
  pub to_head : to_new.head ≡ to_old.head

-- the page has the same rows, at places that may be new
pub record Reorganises (old new : PageRows) : Type 0 where
  pub same : SameRows old.rows new.rows
  pub head : new.head ≡ old.head
