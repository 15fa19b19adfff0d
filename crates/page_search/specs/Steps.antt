-- A step of the walk to a cut.
use Rattle.std.specs.Prelude.{◌≡◌, ℕ, List, [], ◌∷◌, ◌++◌}
use Rattle.key_tuple.specs.Order.{FieldList}
use Rattle.key_tuple.specs.declared.mode.Mode.{Mode}
use Rattle.index_page.specs.Rows.{Row}
use Rattle.page_rows.specs.Reading.{rows_in_bytes}
use Rattle.page_search.specs.declared.walk.Step.{Step}
use Rattle.page_search.specs.declared.walk.Step.TheVariants.{Here, On}
use Rattle.page_search.specs.Cuts.{FindsCut, IsOnTheWay, place_in}

-- the cut is found, or the first of the rows in the middle is passed
abbrev pub StepsOn : List ℕ → ℕ → Mode → FieldList → List Row → List Row → List Row → Step → Type 0
StepsOn bytes fields mode tuple left middle right (Here cut) =
    FindsCut (rows_in_bytes bytes fields) mode tuple (place_in cut)
StepsOn bytes fields mode tuple left middle right (On next) =
    (row : Row) × (rest : List Row) × (middle ≡ row ∷ rest)
    × IsOnTheWay bytes fields mode tuple (left ++ row ∷ []) rest right (place_in next)
