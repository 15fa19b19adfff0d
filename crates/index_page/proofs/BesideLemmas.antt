-- The rows beside a row, and those around a cut.
use Rattle.std.proofs.Common.{◌≡◌, ◌≢◌, ℕ, zero, suc, ◌+◌, ◌-◌, ◌≤◌, Option, Some, None, List, ◌∷◌, ◌++◌, refl, sym, ap, ◌∙◌, subst, add-one, arith, length, take, drop}
use Rattle.std.proofs.lemmas.Option.{slice_get_past}
use Rattle.std.specs.List.{slice_get}
use Rattle.std.specs.Option.{SomeIff}
use Rattle.index_page.specs.Rows.{Row, first_of_rows, last_of_rows, IsAt}
use Rattle.index_page.specs.Page.{PlacesDiffer}
use Rattle.index_page.specs.Search.{nth_row, IsPosition}
use Rattle.index_page.specs.Changes.{NextIs, PrevIs, IsBeside}
use Rattle.index_page.proofs.RowLemmas.{get_split, get_below, first_of_rows-drop, last_of_rows-take, at_get}

-- the place that follows so many rows
pub after_some : (rows : List Row) (count : ℕ) (row : Row) → PlacesDiffer rows → slice_get rows count ≡ Some row → IsAt rows (Some row.place) (slice_get rows count)
after_some = at_get

pub after_none : (rows : List Row) (count : ℕ) → length rows ≤ count → IsAt rows None (slice_get rows count)
after_none rows count h = subst (IsAt rows None) (sym (slice_get_past rows count h)) refl

pub first_is : (rows : List Row) → slice_get rows 0 ≡ first_of_rows rows
first_is rows = sym (first_of_rows-drop rows 0)

-- the place that ends so many rows
pub before_some : (rows : List Row) (count : ℕ) (row : Row) → count ≢ 0 → PlacesDiffer rows → slice_get rows (count - 1) ≡ Some row → IsAt rows (Some row.place) (last_of_rows (take count rows))
before_some rows zero row some d e = absurd (some refl)
before_some rows (suc i) row some d e =
    let here : slice_get rows i ≡ Some row = subst (λ n. slice_get rows n ≡ Some row) (omega arith) e in
    subst (IsAt rows (Some row.place)) (sym (last_of_rows-take rows i (get_below rows i row here))) (at_get rows i row d here)

module _ (rows : List Row) (place at : ℕ) (position : IsPosition rows place at) where
  split : rows ≡ take at rows ++ position.row ∷ drop (suc at) rows
  split = get_split rows at position.row position.there

  -- the row after the one with a number
  after : (next : Option ℕ) → IsAt rows next (slice_get rows (at + 1)) → IsAt rows next (first_of_rows (drop (suc at) rows))
  after next is = subst (IsAt rows next) (sym (first_of_rows-drop rows (suc at))) (rw add-one at is)

  pub next_at : (next : Option ℕ) → IsAt rows next (slice_get rows (at + 1)) → NextIs rows place next
  next_at next is = record { left = take at rows; row = position.row; right = drop (suc at) rows; split = split; place_is = position.place_is; next_at = after next is }

  pub prev_at : (prev : Option ℕ) → IsAt rows prev (last_of_rows (take at rows)) → PrevIs rows place prev
  prev_at prev is = record { left = take at rows; row = position.row; right = drop (suc at) rows; split = split; place_is = position.place_is; prev_at = is }

  pub both_at : (prev next : Option ℕ) → IsAt rows prev (last_of_rows (take at rows)) → IsAt rows next (slice_get rows (at + 1)) → IsBeside rows place prev next
  both_at prev next before is = record { left = take at rows; row = position.row; right = drop (suc at) rows; split = split; place_is = position.place_is; prev_at = before; next_at = after next is }

-- the row before a cut, and the row after it
pub last_beside : (rows : List Row) (cut : ℕ) (o : Option ℕ) → cut ≤ length rows → SomeIff o (1 ≤ cut) (cut - 1) → nth_row rows o ≡ last_of_rows (take cut rows)
last_beside rows zero None h is = refl
last_beside rows zero (Some n) h is = absurd (omega (arith, is.0))
last_beside rows (suc i) None h is = absurd (is (omega arith))
last_beside rows (suc i) (Some n) h is =
    let same : n ≡ i = omega (arith, is.1) in
    ap (slice_get rows) same ∙ sym (last_of_rows-take rows i (omega arith))

pub first_beside : (rows : List Row) (cut : ℕ) → nth_row rows (Some cut) ≡ first_of_rows (drop cut rows)
first_beside rows cut = sym (first_of_rows-drop rows cut)

pub none_beside : (rows : List Row) (cut : ℕ) → length rows ≤ cut → nth_row rows None ≡ first_of_rows (drop cut rows)
none_beside rows cut h = sym (first_of_rows-drop rows cut ∙ slice_get_past rows cut h)
