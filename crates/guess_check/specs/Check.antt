-- The check of a row, as a test.
use Rattle.std.specs.Prelude.{ℕ, ◌≡◌, ◌==◌, ◌&&◌, ◌||◌, not, Bool, true, false, if◌then◌else◌, Option, Some, None, is_none, List, ◌∷◌, ◌++◌, length}
use Rattle.std.specs.Ordering.{is_eq}
use Rattle.key_tuple.specs.Order.{FieldList, tuple_cmp}
use Rattle.key_tuple.specs.KeyPlace.{KeyPlace, At, cut_of, looks_ahead}
use Rattle.key_tuple.specs.declared.mode.Mode.{Mode}
use Rattle.key_tuple.specs.declared.mode.Mode.TheVariants.{Ge, G, Le, L}
use Rattle.index_page.specs.declared.head.PageHead.{PageHead}
use Rattle.index_page.specs.Page.{PageRows}
use Rattle.index_page.specs.Rows.{Row, first_of_rows, last_of_rows}

-- the cut leaves the row out; where there is none, there is no page to that side either
abbrev pub is_left_out : (KeyPlace → Bool) → Option ℕ → Option Row → Bool
is_left_out cut page None = is_none page
is_left_out cut page (Some row) = not (cut (At row.key))

-- the cut admits the row; where there is none, there is no page to that side either
abbrev pub is_admitted : (KeyPlace → Bool) → Option ℕ → Option Row → Bool
is_admitted cut page None = is_none page
is_admitted cut page (Some row) = cut (At row.key)

-- the row between these is at the end of what the mode asks for
abbrev pub is_end : Mode → FieldList → PageHead → (left right : List Row) → Bool
is_end mode tuple head left right =
    if looks_ahead mode then is_left_out (cut_of mode tuple) head.prev (last_of_rows left)
    else is_admitted (cut_of mode tuple) head.next (first_of_rows right)

-- the mode asks for the first row that isn't below the tuple
abbrev pub is_ge : Mode → Bool
is_ge Ge = true
is_ge G = false
is_ge Le = false
is_ge L = false

-- the tuple's fields are those of the key
abbrev pub meets : FieldList → FieldList → Bool
meets tuple key = is_eq (tuple_cmp tuple key)

-- the row's key is the whole tuple, and the mode asks for it first
abbrev pub is_the_key : Mode → FieldList → PageHead → Row → Bool
is_the_key mode tuple head row =
    is_ge mode && meets tuple row.key && (length tuple == head.fields)

-- the row between these passes the check of a mode on a page with this head: it is on the mode's side
-- of the cut, and is the key itself or at the end
abbrev pub passes : Mode → FieldList → PageHead → List Row → Row → List Row → Bool
passes mode tuple head left row right =
    if looks_ahead mode
    then cut_of mode tuple (At row.key)
    && (is_the_key mode tuple head row || is_end mode tuple head left right)
    else not (cut_of mode tuple (At row.key)) && is_end mode tuple head left right

-- what the check tells of it
abbrev pub told_of : Mode → FieldList → PageHead → List Row → Row → List Row → Option Bool
told_of mode tuple head left row right =
    if passes mode tuple head left row right then Some (meets tuple row.key) else None

-- the check tells this of the row at the place
pub record ChecksRow (mode : Mode) (tuple : FieldList) (page : PageRows) (place : ℕ)
    (told : Option Bool) : Type 0 where
  pub left : List Row
  pub row : Row
  pub right : List Row
  pub split : page.rows ≡ left ++ row ∷ right
  pub place_is : row.place ≡ place
  pub is : told ≡ told_of mode tuple page.head left row right

-- whether the cut leaves out what is before the row at the place
pub record TellsFirst (cut : KeyPlace → Bool) (page : PageRows) (place : ℕ)
    (told : Bool) : Type 0 where
  pub left : List Row
  pub row : Row
  pub right : List Row
  pub split : page.rows ≡ left ++ row ∷ right
  pub place_is : row.place ≡ place
  pub is : told ≡ is_left_out cut page.head.prev (last_of_rows left)

-- whether the cut admits what is after the row at the place
pub record TellsLast (cut : KeyPlace → Bool) (page : PageRows) (place : ℕ)
    (told : Bool) : Type 0 where
  pub left : List Row
  pub row : Row
  pub right : List Row
  pub split : page.rows ≡ left ++ row ∷ right
  pub place_is : row.place ≡ place
  pub is : told ≡ is_admitted cut page.head.next (first_of_rows right)
