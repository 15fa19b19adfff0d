-- Rows from a place on, taken one by one.
use Rattle.std.proofs.Common.{◌≡◌, ◌≢◌, ℕ, ◌+◌, ◌<◌, ◌==◌, eq-eqb, Bool, true, false, cond, Option, Some, None, List, [], ◌∷◌, ◌++◌, length, refl, sym, ap, subst, ◌∙◌, append-nil, IsSome}
use Rattle.std.proofs.lemmas.Bool.{ne_eqb}
use Rattle.std.proofs.lemmas.List.{append_assoc, length-append}
use Rattle.list_facts.proofs.Each.{each_right}
use Rattle.key_tuple.specs.Order.{FieldList}
use Rattle.key_tuple.specs.KeyPlace.{At}
use Rattle.map_history.specs.Map.{Map}
use Rattle.map_history.specs.Rows.{row_from}
use Rattle.map_history.specs.Scans.{is_below}
use Rattle.index_page.specs.Page.{PlacesDiffer}
use Rattle.index_page.specs.Rows.{Row, Bytes, find_row, first_of_rows, IsAt}
use Rattle.index_page.specs.Changes.{NextIs}
use Rattle.index_page.proofs.RowLemmas.{find_among}
use Rattle.tree_law.specs.Pages.{row_pairs}
use Rattle.tree_law.proofs.LeafLemmas.{row_pairs-parts}
use Rattle.page_view.specs.declared.taking.Stop.TheVariants.{AtTo, AtPageEnd}
use Rattle.page_view.specs.Taking.{IsPlaceIn, rows_at_or_after, rows_from_place, AreBelow, TakesRows}

-- the rows from the place of one of them on, where the places differ
from_row : (left : List Row) (row : Row) (right : List Row) → PlacesDiffer (left ++ row ∷ right)
    → rows_at_or_after row.place (left ++ row ∷ right) ≡ row ∷ right
from_row [] row right differ =
    ap (λ b. cond b (row ∷ right) (rows_at_or_after row.place right))
    (eq-eqb row.place row.place refl)
from_row (x ∷ left) row right differ =
    let other : row.place ≢ x.place =
    (each_right (λ (y : Row). y.place ≢ x.place) left (row ∷ right) differ.0).0 in
    ap
    (λ b. cond b (x ∷ left ++ row ∷ right) (rows_at_or_after row.place (left ++ row ∷ right)))
    (ne_eqb x.place row.place (λ e. other (sym e)))
    ∙ from_row left row right differ.1

-- the rows from where others end on, by the place of the first of them
pub from_place : (fore on : List Row) (place : Option ℕ) → PlacesDiffer (fore ++ on)
    → IsAt (fore ++ on) place (first_of_rows on) → rows_from_place place (fore ++ on) ≡ on
from_place fore [] place differ at = ap (λ p. rows_from_place p (fore ++ [])) at
from_place fore (x ∷ on) place differ at =
    ap (λ p. rows_from_place p (fore ++ x ∷ on)) at.0 ∙ from_row fore x on differ

-- that is a place at which a row stands
pub place_in : (rows on : List Row) (place : Option ℕ) → IsAt rows place (first_of_rows on)
    → IsPlaceIn rows place
place_in rows [] place at = subst (IsPlaceIn rows) (sym at) tt
place_in rows (x ∷ on) place at =
    subst (IsPlaceIn rows) (sym at.0) (subst IsSome (sym at.1) refl)

-- the row at a place, and those from the next place on
module _ (rows : List Row) (place : ℕ) (row : Row) (next : Option ℕ) (differ : PlacesDiffer rows)
    (found : find_row place rows ≡ Some row) (beside : NextIs rows place next) where
  same_row : row ≡ beside.row
  same_row =
      let there : find_row beside.row.place rows ≡ Some beside.row =
      subst (λ (xs : List Row). find_row beside.row.place xs ≡ Some beside.row) (sym beside.split)
      (find_among beside.left beside.row beside.right (subst PlacesDiffer beside.split differ)) in
      let same : Some row ≡ Some beside.row =
      sym found ∙ (ap (λ p. find_row p rows) (sym beside.place_is) ∙ there) in cc

  parted : rows ≡ (beside.left ++ beside.row ∷ []) ++ beside.right
  parted = beside.split ∙ sym (append_assoc beside.left (beside.row ∷ []) beside.right)

  pub next_in : IsPlaceIn rows next
  next_in = place_in rows beside.right next beside.next_at

  pub one_then : rows_at_or_after place rows ≡ row ∷ rows_from_place next rows
  one_then =
      let all : rows_at_or_after place rows ≡ beside.row ∷ beside.right =
      subst (λ p. rows_at_or_after p rows ≡ beside.row ∷ beside.right) beside.place_is
      (subst (λ (xs : List Row). rows_at_or_after beside.row.place xs ≡ beside.row ∷ beside.right)
      (sym beside.split)
      (from_row beside.left beside.row beside.right (subst PlacesDiffer beside.split differ))) in
      let later : rows_from_place next rows ≡ beside.right =
      subst (λ (xs : List Row). rows_from_place next xs ≡ beside.right) (sym parted)
      (from_place (beside.left ++ beside.row ∷ []) beside.right next (subst PlacesDiffer parted differ)
      (subst (λ (xs : List Row). IsAt xs next (first_of_rows beside.right)) parted beside.next_at)) in
      all ∙ (λ i. sym same_row i ∷ sym later i)

-- so many of the rows from the first place on were put behind the old ones, each below TO, and the
-- rest are those from the next place on
pub record HasTaken (rows : List Row) (start : Option ℕ) (to : Option FieldList) (n : ℕ)
    (old new : Map) (next : Option ℕ) : Type 0 where
  pub taken : List Row
  pub split : rows_from_place start rows ≡ taken ++ rows_from_place next rows
  pub there : IsPlaceIn rows next
  pub count : length taken ≡ n
  pub all : new ≡ old ++ row_pairs taken
  pub below : AreBelow to taken

-- at first none is taken
pub none_taken : (rows : List Row) (start : Option ℕ) (to : Option FieldList) (old : Map)
    → IsPlaceIn rows start → HasTaken rows start to 0 old old start
none_taken rows start to old there = record {
  taken = [];
  split = refl;
  there = there;
  count = refl;
  all = sym (append-nil old);
  below = tt;
}

below_and : (to : Option FieldList) (xs : List Row) (x : Row) → AreBelow to xs
    → is_below to (At x.key) ≡ true → AreBelow to (xs ++ x ∷ [])
below_and to [] x each one = (one, tt)
below_and to (y ∷ xs) x each one = (each.0, below_and to xs x each.1 one)

-- and then one more
pub one_taken : (rows : List Row) (start : Option ℕ) (to : Option FieldList) (n : ℕ)
    (old new : Map) (place : ℕ) (row : Row) (value : List ℕ) (next : Option ℕ) (more : Map)
    → HasTaken rows start to n old new (Some place) → PlacesDiffer rows
    → find_row place rows ≡ Some row → row.body ≡ Bytes value → is_below to (At row.key) ≡ true
    → NextIs rows place next → more ≡ new ++ row_from row.key value ∷ []
    → HasTaken rows start to (n + 1) old more next
one_taken rows start to n old new place row value next more has differ found body below beside
    added = record {
      taken = has.taken ++ row ∷ [];
      split = has.split
          ∙ (ap (λ xs. has.taken ++ xs) (one_then rows place row next differ found beside)
          ∙ sym (append_assoc has.taken (row ∷ []) (rows_from_place next rows)));
      there = next_in rows place row next differ found beside;
      count = length-append has.taken (row ∷ []) ∙ ap (λ k. k + 1) has.count;
      all = added
          ∙ (ap (λ z. z ++ row_from row.key value ∷ []) has.all
          ∙ (append_assoc old (row_pairs has.taken) (row_from row.key value ∷ [])
          ∙ ap (λ z. old ++ z) (sym (row_pairs-parts has.taken row [] value body))));
      below = below_and to has.taken row has.below below;
    }

-- the row at the next place is the first of the rest
pub first_left : (rows : List Row) (place : ℕ) (row : Row) → find_row place rows ≡ Some row
    → first_of_rows (rows_at_or_after place rows) ≡ Some row
first_left [] place row found = found
first_left (x ∷ rows) place row found = go (x.place == place) found (first_left rows place row)
  where
    go : (b : Bool) → cond b (Some x) (find_row place rows) ≡ Some row
        → (find_row place rows ≡ Some row
        → first_of_rows (rows_at_or_after place rows) ≡ Some row)
        → first_of_rows (cond b (x ∷ rows) (rows_at_or_after place rows)) ≡ Some row
    go true e more = e
    go false e more = more e

module _ (rows : List Row) (start : Option ℕ) (to : Option FieldList) (limit n : ℕ)
    (old new : Map) (next : Option ℕ) (has : HasTaken rows start to n old new next)
    (fewer : n < limit) where
  pub stops_at_end : next ≡ None
      → TakesRows (rows_from_place start rows) to limit old new AtPageEnd
  stops_at_end none = record {
    taken = has.taken;
    rest = rows_from_place next rows;
    split = has.split;
    all = has.all;
    below = has.below;
    why = (subst (λ k. k < limit) (sym has.count) fewer, ap (λ p. rows_from_place p rows) none);
  }

  pub stops_at_to : (place : ℕ) (row : Row) → next ≡ Some place → find_row place rows ≡ Some row
      → is_below to (At row.key) ≡ false
      → TakesRows (rows_from_place start rows) to limit old new AtTo
  stops_at_to place row is found past = record {
    taken = has.taken;
    rest = rows_from_place next rows;
    split = has.split;
    all = has.all;
    below = has.below;
    why = (
      subst (λ k. k < limit) (sym has.count) fewer,
      (
        row,
        ap (λ p. first_of_rows (rows_from_place p rows)) is ∙ first_left rows place row found,
        past,
      ),
    );
  }

-- the rows from a place on are the last of all
pub ends_with : (place : Option ℕ) (rows : List Row)
    → (fore : List Row) × (rows ≡ fore ++ rows_from_place place rows)
ends_with None rows = (rows, sym (append-nil rows))
ends_with (Some place) rows = go rows
  where
    go : (xs : List Row) → (fore : List Row) × (xs ≡ fore ++ rows_at_or_after place xs)
    go [] = ([], refl)
    go (x ∷ xs) = by_test (x.place == place) (go xs)
      where
        by_test : (b : Bool) → (fore : List Row) × (xs ≡ fore ++ rows_at_or_after place xs)
            → (fore : List Row) × (x ∷ xs ≡ fore ++ cond b (x ∷ xs) (rows_at_or_after place xs))
        by_test true more = ([], refl)
        by_test false more = (x ∷ more.0, ap (λ zs. x ∷ zs) more.1)
