-- Rows with another value.
use Rattle.std.proofs.Common.{◌≡◌, ◌≢◌, ℕ, suc, true, Some, List, [], ◌∷◌, ◌++◌, ◌+◌, ◌≤◌, refl, sym, ap, ◌∙◌, subst, arith, take, drop}
use Rattle.std.specs.List.{AllByRecursion, slice_get}
use Rattle.key_tuple.specs.Order.{FieldList}
use Rattle.key_tuple.specs.KeyPlace.{At, before}
use Rattle.index_page.specs.declared.TheConstants.{PAGE_ROOM}
use Rattle.index_page.specs.declared.head.PageHead.{PageHead}
use Rattle.index_page.specs.Rows.{RowBody, Bytes, Child, Row, placed_row, find_row}
use Rattle.index_page.specs.Page.{PageRows, FitsLevel, HasShortValue, RowsAscend, PlacesDiffer, IsRowOf, IsPageInOrder}
use Rattle.index_page.specs.Search.{IsPosition}
use Rattle.index_page.specs.Changes.{Sets}
use Rattle.index_page.specs.Loads.{charge_of, load_of}
use Rattle.index_page.specs.Store.{HasValueAt, Rewrites}
use Rattle.list_facts.proofs.Places.{same_some}
use Rattle.list_facts.proofs.Each.{each_left, each_right, each_append, each_get}
use Rattle.index_page.proofs.RowLemmas.{get_split, find_among, find_get}
use Rattle.index_page.proofs.LoadLemmas.{load_of-among}

-- a row of the same key at the same place stands for one that was there
ascends_put : (xs : List Row) (row new : Row) (ys : List Row) → row.key ≡ new.key → RowsAscend (xs ++ row ∷ ys) → RowsAscend (xs ++ new ∷ ys)
ascends_put [] row new ys k a = (subst (λ (key : FieldList). AllByRecursion (λ (y : Row). before (At key) (At y.key) ≡ true) ys) k a.0, a.1)
ascends_put (x ∷ xs) row new ys k a =
    let rises = λ (y : Row). before (At x.key) (At y.key) ≡ true in
    let here = each_right rises xs (row ∷ ys) a.0 in
    (each_append rises xs (new ∷ ys) (each_left rises xs (row ∷ ys) a.0) (subst (λ (key : FieldList). before (At x.key) (At key) ≡ true) k here.0, here.1), ascends_put xs row new ys k a.1)

pub differ_put : (xs : List Row) (row new : Row) (ys : List Row) → row.place ≡ new.place → PlacesDiffer (xs ++ row ∷ ys) → PlacesDiffer (xs ++ new ∷ ys)
differ_put [] row new ys k d = (subst (λ n. AllByRecursion (λ (y : Row). y.place ≢ n) ys) k d.0, d.1)
differ_put (x ∷ xs) row new ys k d =
    let other = λ (y : Row). y.place ≢ x.place in
    let here = each_right other xs (row ∷ ys) d.0 in
    (each_append other xs (new ∷ ys) (each_left other xs (row ∷ ys) d.0) (subst (λ n. n ≢ x.place) k here.0, here.1), differ_put xs row new ys k d.1)

-- a row with another value
module _ (head : PageHead) (old new : List Row) (at : ℕ) (bytes : List ℕ) (order : IsPageInOrder (record { head = head; rows = old })) (put : Rewrites old new at bytes) where
  its_split : old ≡ take at old ++ put.row ∷ drop (suc at) old
  its_split = get_split old at put.row put.there

  -- the row's charge changes by that of its value
  pub rewritten_load : load_of new + charge_of put.row.key put.row.body ≡ load_of old + charge_of put.row.key (Bytes bytes)
  rewritten_load =
      let low = take at old in
      let high = drop (suc at) old in
      let row = placed_row put.row.place put.row.key (Bytes bytes) in
      omega (arith, ap load_of put.is, ap load_of its_split, load_of-among low row high, load_of-among low put.row high)

  pub rewritten_order : head.level ≡ 0 → HasShortValue (Bytes bytes) → load_of new ≤ PAGE_ROOM → IsPageInOrder (record { head = head; rows = new })
  rewritten_order level short fits =
      let low = take at old in
      let high = drop (suc at) old in
      let row = placed_row put.row.place put.row.key (Bytes bytes) in
      let each = subst (AllByRecursion (IsRowOf head)) its_split order.each in
      let here = each_right (IsRowOf head) low (put.row ∷ high) each in
      let suits : IsRowOf head row = record { fields = here.0.fields; limits = here.0.limits; body = level; short = short } in
      record {
        ascend = subst RowsAscend (sym put.is) (ascends_put low put.row row high refl (subst RowsAscend its_split order.ascend));
        places = subst PlacesDiffer (sym put.is) (differ_put low put.row row high refl (subst PlacesDiffer its_split order.places));
        each = subst (AllByRecursion (IsRowOf head)) (sym put.is) (each_append (IsRowOf head) low (row ∷ high) (each_left (IsRowOf head) low (put.row ∷ high) each) (suits, here.1));
        fits = fits;
        prev = order.prev;
        next = order.next;
      }

-- what a page is after a row got another value
pub sets : (old new : PageRows) (place at : ℕ) (bytes : List ℕ) → IsPosition old.rows place at → Rewrites old.rows new.rows at bytes → IsPageInOrder new → new.head ≡ old.head → Sets old new place place bytes
sets old new place at bytes position put order head =
    let same : position.row ≡ put.row = same_some position.row put.row (sym position.there ∙ put.there) in
    let at_place : put.row.place ≡ place = ap (λ (x : Row). x.place) (sym same) ∙ position.place_is in
    let row = placed_row place put.row.key (Bytes bytes) in
    let rows : new.rows ≡ take at old.rows ++ row ∷ drop (suc at) old.rows = put.is ∙ ap (λ n. take at old.rows ++ placed_row n put.row.key (Bytes bytes) ∷ drop (suc at) old.rows) at_place in
    record {
      left = take at old.rows;
      row = put.row;
      right = drop (suc at) old.rows;
      was = get_split old.rows at put.row put.there;
      place_is = at_place;
      is = rows;
      stands = subst (λ (zs : List Row). find_row place zs ≡ Some row) (sym rows) (find_among (take at old.rows) row (drop (suc at) old.rows) (subst PlacesDiffer rows order.places));
      in_place = λ value e f. refl;
      head = head;
    }

-- the rows of a leaf carry values
pub value_at : (head : PageHead) (rows : List Row) (place at : ℕ) → IsPageInOrder (record { head = head; rows = rows }) → IsPosition rows place at → head.level ≡ 0 → HasValueAt rows at
value_at head rows place at order position level = go position.row position.there ((each_get (IsRowOf head) rows at position.row order.each position.there).body)
  where
    go : (row : Row) → slice_get rows at ≡ Some row → FitsLevel head.level row.body → HasValueAt rows at
    go row e fits = of (row.body) refl fits
      where
        of : (body : RowBody) → row.body ≡ body → FitsLevel head.level body → HasValueAt rows at
        of (Bytes value) is fits = record { row = row; value = value; there = e; is = is }
        of (Child number) is fits = absurd (fits level)

-- the value of the row at a place, by its number
pub value_of : (rows : List Row) (place at : ℕ) (row : Row) (value : List ℕ) → PlacesDiffer rows → IsPosition rows place at → find_row place rows ≡ Some row → row.body ≡ Bytes value → (has : HasValueAt rows at) × (has.value ≡ value)
value_of rows place at row value differ position found is =
    let here = subst (λ n. find_row n rows ≡ Some position.row) position.place_is (find_get rows at position.row differ position.there) in
    let same = same_some position.row row (sym here ∙ found) in
    (record { row = position.row; value = value; there = position.there; is = ap (λ (x : Row). x.body) same ∙ is }, refl)
