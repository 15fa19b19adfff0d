-- The rows of a leaf that aren't before a cursor, by a search and by the cursor's place.
use Rattle.std.proofs.Common.{◌≡◌, ◌≢◌, ℕ, Bool, true, false, not, cond, eq-eqb, Option, Some, List, [], ◌∷◌, ◌++◌, length, inl, inr, refl, sym, ap, subst, ◌∙◌}
use Rattle.std.proofs.lemmas.Bool.{ne_eqb}
use Rattle.std.proofs.lemmas.List.{append_assoc}
use Rattle.std.specs.List.{AllByRecursion}
use Rattle.list_facts.proofs.Each.{each_left, each_right, each_append, each_both, each_weaker}
use Rattle.key_tuple.specs.Order.{FieldList}
use Rattle.key_tuple.specs.KeyPlace.{At, above, before, not_below}
use Rattle.key_tuple.specs.declared.mode.Mode.TheVariants.{Ge, G}
use Rattle.key_tuple.proofs.PlaceLemmas.{before-itself, before_not_after}
use Rattle.index_page.specs.declared.spot.Spot.{Spot}
use Rattle.index_page.specs.Changes.{NextIs}
use Rattle.index_page.specs.Page.{PageRows, PlacesDiffer, RowsAscend, IsRowOf, IsPageInOrder}
use Rattle.index_page.specs.Rows.{Row, find_row}
use Rattle.index_page.specs.Search.{Finds}
use Rattle.index_page.proofs.CutLemmas.{not_below-whole}
use Rattle.index_page.proofs.RowLemmas.{ascends_right, find_among, find_stands}
use Rattle.tree_law.specs.TreeShape.{In}
use Rattle.tree_law.proofs.LeafLemmas.{each_in}
use Rattle.clock_law.specs.ModifyClock.{HasKeyAt}
use Rattle.page_view.proofs.SpotLemmas.{above-whole}
use Rattle.scan_law.specs.AfterKey.{after_key}
use Rattle.scan_law.proofs.PlaceLemmas.{before_after, after_itself}
use Rattle.tree_cursor.specs.Starts.{BeginsAt}

from_not : (b : Bool) → not b ≡ false → b ≡ true
from_not true e = refl
from_not false e = absurd cc

from_not_true : (b : Bool) → not b ≡ true → b ≡ false
from_not_true false e = refl
from_not_true true e = absurd cc

-- each row of a page has as many fields as a key with the page's number
pub all_long : (page : PageRows) (key : FieldList) → IsPageInOrder page
    → length key ≡ page.head.fields
    → AllByRecursion (λ (x : Row). length x.key ≡ length key) page.rows
all_long page key order long = each_weaker (IsRowOf page.head)
    (λ (x : Row). length x.key ≡ length key) (λ x of. of.fields ∙ sym long) page.rows order.each

module _ (key : FieldList) (rows : List Row) (spot : Spot)
    (long : AllByRecursion (λ (x : Row). length x.key ≡ length key) rows) where
  abbrev Long : Row → Type 0
  Long x = length x.key ≡ length key

  -- by a search for the rows that aren't below the key
  pub begins_by_ge : Finds Ge key rows spot → BeginsAt rows (At key) spot.after
  begins_by_ge found =
      let all = subst (AllByRecursion Long) found.split long in
      record {
        fore = found.left;
        on = found.right;
        split = found.split;
        sooner = each_both Long (λ (x : Row). not_below key (At x.key) ≡ false)
            (λ (x : Row). before (At x.key) (At key) ≡ true)
            (λ x same out. from_not (before (At x.key) (At key))
            (sym (not_below-whole key x.key (sym same)) ∙ out)) found.left
            (each_left Long found.left found.right all) found.out;
        later = each_both Long (λ (x : Row). not_below key (At x.key) ≡ true)
            (λ (x : Row). before (At x.key) (At key) ≡ false)
            (λ x same past. from_not_true (before (At x.key) (At key))
            (sym (not_below-whole key x.key (sym same)) ∙ past)) found.right
            (each_right Long found.left found.right all) found.past;
        at = found.after_at;
      }

  -- and by one for those that are above it
  pub begins_by_g : Finds G key rows spot → BeginsAt rows (after_key key) spot.after
  begins_by_g found =
      let all = subst (AllByRecursion Long) found.split long in
      record {
        fore = found.left;
        on = found.right;
        split = found.split;
        sooner = each_both Long (λ (x : Row). above key (At x.key) ≡ false)
            (λ (x : Row). before (At x.key) (after_key key) ≡ true)
            (λ x same out. before_after x.key key same
            ∙ ap not (sym (above-whole key x.key (sym same)) ∙ out)) found.left
            (each_left Long found.left found.right all) found.out;
        later = each_both Long (λ (x : Row). above key (At x.key) ≡ true)
            (λ (x : Row). before (At x.key) (after_key key) ≡ false)
            (λ x same past. before_after x.key key same
            ∙ ap not (sym (above-whole key x.key (sym same)) ∙ past)) found.right
            (each_right Long found.left found.right all) found.past;
        at = found.after_at;
      }

-- one of the rows is the one at its place, where the places differ
in_found : (rows : List Row) (row : Row) → PlacesDiffer rows → In row rows
    → find_row row.place rows ≡ Some row
in_found [] row differ among = absurd among
in_found (x ∷ rows) row differ (inl is) =
    ap (λ b. cond b (Some x) (find_row row.place rows))
    (eq-eqb x.place row.place (ap (λ (z : Row). z.place) (sym is))) ∙ ap Some (sym is)
in_found (x ∷ rows) row differ (inr among) =
    let other = each_in (λ (y : Row). y.place ≢ x.place) rows differ.0 row among in
    ap (λ b. cond b (Some x) (find_row row.place rows))
    (ne_eqb x.place row.place (λ e. other (sym e))) ∙ in_found rows row differ.1 among

pub key_found : (rows : List Row) (place : ℕ) (key : FieldList) → PlacesDiffer rows
    → (has : HasKeyAt rows place key) → find_row place rows ≡ Some has.row
key_found rows place key differ has =
    subst (λ p. find_row p rows ≡ Some has.row) has.place_is
    (in_found rows has.row differ has.among)

-- the rows before a row are below it, and those after it above
pub rows_below : (left : List Row) (row : Row) (right : List Row) → RowsAscend (left ++ row ∷ right)
    → AllByRecursion (λ (x : Row). before (At x.key) (At row.key) ≡ true) left
rows_below [] row right rise = tt
rows_below (x ∷ left) row right rise = (
  (each_right (λ (y : Row). before (At x.key) (At y.key) ≡ true) left (row ∷ right) rise.0).0,
  rows_below left row right rise.1,
)

pub rows_above : (left : List Row) (row : Row) (right : List Row) → RowsAscend (left ++ row ∷ right)
    → AllByRecursion (λ (y : Row). before (At row.key) (At y.key) ≡ true) right
rows_above left row right rise = (ascends_right left (row ∷ right) rise).0

module _ (page : PageRows) (order : IsPageInOrder page) (place : ℕ) (key : FieldList)
    (has : HasKeyAt page.rows place key) where
  -- from the row with the key on
  pub begins_at_key : BeginsAt page.rows (At key) (Some place)
  begins_at_key =
      let found = key_found page.rows place key order.places has in
      let s = find_stands page.rows place has.row found in
      let rise = subst RowsAscend s.split order.ascend in
      subst (λ k. BeginsAt page.rows (At k) (Some place)) has.key_is (record {
        fore = s.left;
        on = has.row ∷ s.right;
        split = s.split;
        sooner = rows_below s.left has.row s.right rise;
        later = (
          before-itself (At has.row.key),
          each_weaker (λ (y : Row). before (At has.row.key) (At y.key) ≡ true)
              (λ (y : Row). before (At y.key) (At has.row.key) ≡ false)
              (λ y above. before_not_after (At has.row.key) (At y.key) above) s.right
              (rows_above s.left has.row s.right rise),
        );
        at = (
          ap Some (sym has.place_is),
          subst (λ p. find_row p page.rows ≡ Some has.row) (sym has.place_is) found,
        );
      })

  -- or from the one after it on
  pub begins_after_key : (next : Option ℕ) → length key ≡ page.head.fields
      → NextIs page.rows place next → BeginsAt page.rows (after_key key) next
  begins_after_key next long beside =
      let found = key_found page.rows place key order.places has in
      let row = beside.row in
      let there : find_row row.place page.rows ≡ Some row =
      subst (λ (xs : List Row). find_row row.place xs ≡ Some row) (sym beside.split)
      (find_among beside.left row beside.right (subst PlacesDiffer beside.split order.places)) in
      let some : Some has.row ≡ Some row =
      sym found ∙ (ap (λ p. find_row p page.rows) (sym beside.place_is) ∙ there) in
      let same : has.row ≡ row = cc in
      let key_is : row.key ≡ key = ap (λ (z : Row). z.key) (sym same) ∙ has.key_is in
      let rise = subst RowsAscend beside.split order.ascend in
      let all = subst (AllByRecursion (λ (x : Row). length x.key ≡ length key)) beside.split
      (all_long page key order long) in
      let longs = each_right (λ (x : Row). length x.key ≡ length key) beside.left (row ∷ beside.right)
      all in
      record {
        fore = beside.left ++ row ∷ [];
        on = beside.right;
        split = beside.split ∙ sym (append_assoc beside.left (row ∷ []) beside.right);
        sooner = each_append (λ (x : Row). before (At x.key) (after_key key) ≡ true) beside.left
            (row ∷ [])
            (each_both (λ (x : Row). length x.key ≡ length key)
            (λ (x : Row). before (At x.key) (At row.key) ≡ true)
            (λ (x : Row). before (At x.key) (after_key key) ≡ true)
            (λ x same_long below. before_after x.key key same_long
            ∙ ap not (subst (λ k. before (At k) (At x.key) ≡ false) key_is
            (before_not_after (At x.key) (At row.key) below))) beside.left
            (each_left (λ (x : Row). length x.key ≡ length key) beside.left (row ∷ beside.right) all)
            (rows_below beside.left row beside.right rise))
            (subst (λ k. before (At k) (after_key key) ≡ true) (sym key_is) (after_itself key), tt);
        later = each_both (λ (x : Row). length x.key ≡ length key)
            (λ (y : Row). before (At row.key) (At y.key) ≡ true)
            (λ (y : Row). before (At y.key) (after_key key) ≡ false)
            (λ y same_long above. before_after y.key key same_long
            ∙ ap not (subst (λ k. before (At k) (At y.key) ≡ true) key_is above)) beside.right
            longs.1 (rows_above beside.left row beside.right rise);
        at = beside.next_at;
      }
