-- Rows of a leaf that are copied from a place on.
use Rattle.std.specs.Prelude.{ℕ, ◌≡◌, ◌==◌, ◌<◌, true, false, if◌then◌else◌, Option, Some, None, IsSome, List, [], ◌∷◌, ◌++◌, length}
use Rattle.std.specs.List.{AllByRecursion}
use Rattle.key_tuple.specs.Order.{FieldList}
use Rattle.key_tuple.specs.KeyPlace.{At}
use Rattle.map_history.specs.Map.{Map}
use Rattle.map_history.specs.Scans.{is_below}
use Rattle.index_page.specs.Rows.{Row, find_row, first_of_rows}
use Rattle.tree_law.specs.Pages.{row_pairs}
use Rattle.page_view.specs.declared.taking.Stop.{Stop}
use Rattle.page_view.specs.declared.taking.Stop.TheVariants.{AtLimit, AtTo, AtPageEnd}

-- a row stands at the place, if a place is given
abbrev pub IsPlaceIn : List Row → Option ℕ → Type 0
IsPlaceIn rows None = Unit {0}
IsPlaceIn rows (Some place) = IsSome (find_row place rows)

-- the row at the place and those after it
abbrev pub rows_at_or_after : ℕ → List Row → List Row
rows_at_or_after place [] = []
rows_at_or_after place (x ∷ xs) = if x.place == place then x ∷ xs else rows_at_or_after place xs

-- the same, and no row where no place is given
abbrev pub rows_from_place : Option ℕ → List Row → List Row
rows_from_place None rows = []
rows_from_place (Some place) rows = rows_at_or_after place rows

-- each of the rows is below TO
abbrev pub AreBelow : Option FieldList → List Row → Type 0
AreBelow to rows = AllByRecursion (λ (x : Row). is_below to (At x.key) ≡ true) rows

-- why no more than n rows were taken: that is the limit, or it is less and the next row isn't below
-- TO, or it is less and there is no next row
abbrev pub StopsAt : Option FieldList → (limit n : ℕ) → (rest : List Row) → Stop → Type 0
StopsAt to limit n rest AtLimit = n ≡ limit
StopsAt to limit n rest AtTo = (n < limit)
    × ((x : Row) × (first_of_rows rest ≡ Some x) × (is_below to (At x.key) ≡ false))
StopsAt to limit n rest AtPageEnd = (n < limit) × (rest ≡ [])

-- the first of these rows were put behind the old ones, each of them below TO, and it is told why no
-- more were
pub record TakesRows (rows : List Row) (to : Option FieldList) (limit : ℕ) (old new : Map)
    (stop : Stop) : Type 0 where
  pub taken : List Row
  pub rest : List Row
  pub split : rows ≡ taken ++ rest
  pub all : new ≡ old ++ row_pairs taken
  pub below : AreBelow to taken
  pub why : StopsAt to limit (length taken) rest stop
