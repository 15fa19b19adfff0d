-- Where the key of a row belongs among the rows: before that row.
use Rattle.std.proofs.Common.{◌≡◌, ℕ, zero, suc, ◌<◌, true, not, Option, Some, None, List, [], ◌∷◌, ◌++◌, refl, sym, ap, ◌∙◌, subst, arith, length, take, drop}
use Rattle.std.proofs.lemmas.List.{take-append-drop, length-take-le}
use Rattle.std.specs.List.{AllByRecursion, slice_get}
use Rattle.key_tuple.specs.Order.{FieldList}
use Rattle.key_tuple.specs.KeyPlace.{At, before, not_below}
use Rattle.key_tuple.specs.declared.mode.Mode.TheVariants.{Ge}
use Rattle.key_tuple.proofs.TupleLemmas.{not_below_cut}
use Rattle.list_facts.proofs.Each.{each_get, each_weaker}
use Rattle.index_page.specs.declared.spot.Spot.{Spot}
use Rattle.index_page.specs.Page.{PageRows, PlacesDiffer, RowsAscend, IsRowOf, IsPageInOrder}
use Rattle.index_page.specs.Rows.{Row, first_of_rows, last_of_rows, find_row, IsAt}
use Rattle.index_page.specs.Search.{AllOut, Finds, agreement}
use Rattle.index_page.proofs.CutLemmas.{in_from, not_below-itself, not_below-whole}
use Rattle.index_page.proofs.RowLemmas.{find_get, find_stands, first_of_rows-drop, get_below, last_of_rows-take}

-- a row that stands at a place has a number
numbered : (left : List Row) (row : Row) (right : List Row)
    → slice_get (left ++ row ∷ right) (length left) ≡ Some row
numbered [] row right = refl
numbered (x ∷ left) row right = numbered left row right

-- the place of a row, if there is one
abbrev place_of : Option Row → Option ℕ
place_of None = None
place_of (Some x) = Some x.place

module _ (rows : List Row) (differ : PlacesDiffer rows) where
  at_number : (n : ℕ) (o : Option Row) → slice_get rows n ≡ o → IsAt rows (place_of o) o
  at_number n None e = refl
  at_number n (Some x) e = (refl, find_get rows n x differ e)

  at_last : (n : ℕ) → n < length rows
      → IsAt rows (place_of (last_of_rows (take n rows))) (last_of_rows (take n rows))
  at_last zero below = subst (λ o. IsAt rows (place_of o) o) (sym (none rows)) refl
    where
      none : (xs : List Row) → last_of_rows (take zero xs) ≡ None
      none [] = refl
      none (x ∷ xs) = refl
  at_last (suc n) below = subst (λ o. IsAt rows (place_of o) o)
      (sym (last_of_rows-take rows n (omega (arith, below))))
      (at_number n (slice_get rows n) refl)

module _ (key : FieldList) where
  -- what comes before a row with the key is below the key
  left_out : (rows : List Row) (n : ℕ) (row : Row) → RowsAscend rows
      → AllByRecursion (λ (x : Row). length key ≡ length x.key) rows
      → slice_get rows n ≡ Some row → row.key ≡ key → AllOut (not_below key) (take n rows)
  left_out [] n row rise each at same = absurd cc
  left_out (x ∷ rows) zero row rise each at same = tt
  left_out (x ∷ rows) (suc n) row rise each at same =
      let earlier : before (At x.key) (At key) ≡ true =
      subst (λ k. before (At x.key) (At k) ≡ true) same
      (each_get (λ (z : Row). before (At x.key) (At z.key) ≡ true) rows n row rise.0 at) in (
        not_below-whole key x.key each.0 ∙ ap not earlier,
        left_out rows n row rise.1 each.1 at same,
      )

  module _ (rows : List Row) (rise : RowsAscend rows) (differ : PlacesDiffer rows)
      (each : AllByRecursion (λ (x : Row). length key ≡ length x.key) rows) (n : ℕ) (row : Row)
      (at : slice_get rows n ≡ Some row) (same : row.key ≡ key) where
    first : first_of_rows (drop n rows) ≡ Some row
    first = first_of_rows-drop rows n ∙ at

    spot : Spot
    spot = record {
      before = place_of (last_of_rows (take n rows));
      after = Some row.place;
      low = agreement key (last_of_rows (take n rows));
      up = agreement key (first_of_rows (drop n rows));
      cut = n;
    }

    spot_finds : Finds Ge key rows spot
    unfolding spot
    spot_finds = let below = get_below rows n row at in record {
      left = take n rows;
      right = drop n rows;
      split = sym (take-append-drop n rows);
      out = left_out rows n row rise each at same;
      past = in_from (not_below key) (not_below_cut key) rows n row rise at
          (subst (λ k. not_below key (At k) ≡ true) (sym same) (not_below-itself key));
      before_at = at_last rows differ n below;
      after_at = subst (IsAt rows (Some row.place)) (sym first)
          (refl, find_get rows n row differ at);
      low = refl;
      up = refl;
      cut = sym (length-take-le n rows (omega (arith, below)));
    }

-- the key of a row of a page that is in order belongs at a spot
pub row_spot : (page : PageRows) (place : ℕ) (row : Row) (key : FieldList) → IsPageInOrder page
    → length key ≡ page.head.fields → find_row place page.rows ≡ Some row → row.key ≡ key
    → (spot : Spot) × Finds Ge key page.rows spot
row_spot page place row key order long there same =
    let s = find_stands page.rows place row there in
    let each = each_weaker (IsRowOf page.head) (λ (x : Row). length key ≡ length x.key)
    (λ x of. long ∙ sym of.fields) page.rows order.each in
    let at : slice_get page.rows (length s.left) ≡ Some row =
    ap (λ (zs : List Row). slice_get zs (length s.left)) s.split ∙ numbered s.left row s.right in (
      spot key page.rows order.ascend order.places each (length s.left) row at same,
      spot_finds key page.rows order.ascend order.places each (length s.left) row at same,
    )
