-- Whether there is a row at a place that is told.
use Rattle.std.proofs.Common.{◌≡◌, ℕ, Bool, true, false, not, Option, Some, None, is_some, is_none, List, refl, sym, ap, ◌∙◌}
use Rattle.std.proofs.lemmas.Option.{same_Some}
use Rattle.key_tuple.specs.KeyPlace.{KeyPlace, At}
use Rattle.index_page.specs.Page.{PageRows}
use Rattle.index_page.specs.Rows.{Row, find_row, IsAt}
use Rattle.index_page.specs.Changes.{PrevIs, NextIs}
use Rattle.guess_check.specs.Check.{is_left_out, is_admitted, TellsFirst, TellsLast}

-- no row stands at no place
none_at : (rows : List Row) (place : Option ℕ) (row : Option Row) → IsAt rows place row
    → place ≡ None → row ≡ None
none_at rows place None at none = refl
none_at rows place (Some row) at none = absurd (let e = sym at.0 ∙ none in cc)

-- and at a place the row that is found there
found_at : (rows : List Row) (place : Option ℕ) (at : ℕ) (row : Option Row) (found : Row)
    → IsAt rows place row → place ≡ Some at → find_row at rows ≡ Some found → row ≡ Some found
found_at rows place at None found is some finds = absurd (let e = sym is ∙ some in cc)
found_at rows place at (Some row) found is some finds =
    sym is.1 ∙ ap (λ n. find_row n rows) (same_Some row.place at (sym is.0 ∙ some)) ∙ finds

-- a page is absent where it isn't there
absent : (page : Option ℕ) (told : Bool) → is_some page ≡ not told → told ≡ is_none page
absent None true e = refl
absent None false e = absurd cc
absent (Some n) true e = absurd cc
absent (Some n) false e = refl

pub first_none : (cut : KeyPlace → Bool) (page : PageRows) (place : ℕ) (prev : Option ℕ)
    (told : Bool) → PrevIs page.rows place prev → prev ≡ None → is_some page.head.prev ≡ not told
    → TellsFirst cut page place told
first_none cut page place prev told p none is = search (absent page.head.prev told is ∙ ap (is_left_out cut page.head.prev) (sym (none_at page.rows prev _ p.prev_at none)))

pub first_some : (cut : KeyPlace → Bool) (page : PageRows) (place : ℕ) (prev : Option ℕ)
    (at : ℕ) (row : Row) (past : Bool) → PrevIs page.rows place prev → prev ≡ Some at
    → find_row at page.rows ≡ Some row → past ≡ cut (At row.key)
    → TellsFirst cut page place (not past)
first_some cut page place prev at row past p some finds is = search (ap not is ∙ ap (is_left_out cut page.head.prev) (sym (found_at page.rows prev at _ row p.prev_at some finds)))

pub last_none : (cut : KeyPlace → Bool) (page : PageRows) (place : ℕ) (next : Option ℕ)
    (told : Bool) → NextIs page.rows place next → next ≡ None → is_some page.head.next ≡ not told
    → TellsLast cut page place told
last_none cut page place next told p none is = search (absent page.head.next told is ∙ ap (is_admitted cut page.head.next) (sym (none_at page.rows next _ p.next_at none)))

pub last_some : (cut : KeyPlace → Bool) (page : PageRows) (place : ℕ) (next : Option ℕ)
    (at : ℕ) (row : Row) (past : Bool) → NextIs page.rows place next → next ≡ Some at
    → find_row at page.rows ≡ Some row → past ≡ cut (At row.key) → TellsLast cut page place past
last_some cut page place next at row past p some finds is = search (is ∙ ap (is_admitted cut page.head.next) (sym (found_at page.rows next at _ row p.next_at some finds)))
