-- Pages in order, after a row was put in or taken out.
use Rattle.std.proofs.Common.{◌≡◌, ◌≢◌, ℕ, suc, ◌+◌, ◌≤◌, true, false, Some, None, List, [], ◌∷◌, ◌++◌, sym, ap, ◌∙◌, subst, arith, take, drop}
use Rattle.std.proofs.lemmas.List.{take-append-drop}
use Rattle.std.specs.List.{AllByRecursion, insert, remove}
use Rattle.key_tuple.specs.KeyPlace.{At, before, not_below}
use Rattle.index_page.specs.declared.TheConstants.{PAGE_ROOM}
use Rattle.index_page.specs.Rows.{Row, find_row, LacksKey}
use Rattle.index_page.specs.Page.{PageRows, RowsAscend, PlacesDiffer, IsRowOf, IsPageInOrder}
use Rattle.index_page.specs.Search.{AllOut, AllIn, IsPosition}
use Rattle.index_page.specs.Loads.{charge_of, load_of}
use Rattle.index_page.specs.Changes.{Inserts, Deletes}
use Rattle.list_facts.proofs.Each.{each_left, each_right, each_append, each_both}
use Rattle.index_page.proofs.RowLemmas.{get_split, find_among}
use Rattle.index_page.proofs.CutLemmas.{before_key, after_key}
use Rattle.index_page.proofs.LoadLemmas.{load_of-among}

-- rising rows with one more between those below and above it
ascends_in : (xs : List Row) (row : Row) (ys : List Row) → RowsAscend (xs ++ ys) → AllByRecursion (λ (x : Row). before (At x.key) (At row.key) ≡ true) xs → AllByRecursion (λ (y : Row). before (At row.key) (At y.key) ≡ true) ys → RowsAscend (xs ++ row ∷ ys)
ascends_in [] row ys a below above = (above, a)
ascends_in (x ∷ xs) row ys a below above =
    let rises = λ (y : Row). before (At x.key) (At y.key) ≡ true in
    (each_append rises xs (row ∷ ys) (each_left rises xs ys a.0) (below.0, each_right rises xs ys a.0), ascends_in xs row ys a.1 below.1 above)

-- and with one less
ascends_out : (xs : List Row) (row : Row) (ys : List Row) → RowsAscend (xs ++ row ∷ ys) → RowsAscend (xs ++ ys)
ascends_out [] row ys a = a.1
ascends_out (x ∷ xs) row ys a =
    let rises = λ (y : Row). before (At x.key) (At y.key) ≡ true in
    (each_append rises xs ys (each_left rises xs (row ∷ ys) a.0) (each_right rises xs (row ∷ ys) a.0).1, ascends_out xs row ys a.1)

module _ (page : PageRows) (row : Row) (cut : ℕ) (order : IsPageInOrder page) where
  abbrev pub low : List Row
  low = take cut page.rows

  abbrev pub high : List Row
  high = drop cut page.rows

  parts : low ++ high ≡ page.rows
  parts = take-append-drop cut page.rows

  each : AllByRecursion (IsRowOf page.head) (low ++ high)
  each = subst (AllByRecursion (IsRowOf page.head)) (sym parts) order.each

  -- a row more adds its charge
  pub inserted_load : load_of (insert page.rows cut row) ≡ load_of page.rows + charge_of row.key row.body
  inserted_load = omega (arith, load_of-among low row high, ap load_of parts)

  -- a row whose key is new stands where the cut before its key is
  pub inserted_order : IsRowOf page.head row → LacksKey row.key page.rows → AllOut (not_below row.key) low → AllIn (not_below row.key) high → load_of page.rows + charge_of row.key row.body ≤ PAGE_ROOM → PlacesDiffer (insert page.rows cut row) → IsPageInOrder (record { head = page.head; rows = insert page.rows cut row })
  inserted_order suits lacks out past room places =
      let other = subst (AllByRecursion (λ (x : Row). x.key ≢ row.key)) (sym parts) lacks in
      let below = each_both (IsRowOf page.head) (λ (x : Row). not_below row.key (At x.key) ≡ false) (λ (x : Row). before (At x.key) (At row.key) ≡ true) (λ x of f. before_key row.key x.key (suits.fields ∙ sym of.fields) f) low (each_left (IsRowOf page.head) low high each) out in
      let new = each_both (λ (x : Row). x.key ≢ row.key) (λ (x : Row). not_below row.key (At x.key) ≡ true) (λ (x : Row). (x.key ≢ row.key) × (not_below row.key (At x.key) ≡ true)) (λ x n t. (n, t)) high (each_right (λ (x : Row). x.key ≢ row.key) low high other) past in
      let above = each_both (IsRowOf page.head) (λ (x : Row). (x.key ≢ row.key) × (not_below row.key (At x.key) ≡ true)) (λ (x : Row). before (At row.key) (At x.key) ≡ true) (λ x of n. after_key row.key x.key (suits.fields ∙ sym of.fields) n.0 n.1) high (each_right (IsRowOf page.head) low high each) new in
      record {
        ascend = ascends_in low row high (subst RowsAscend (sym parts) order.ascend) below above;
        places = places;
        each = each_append (IsRowOf page.head) low (row ∷ high) (each_left (IsRowOf page.head) low high each) (suits, each_right (IsRowOf page.head) low high each);
        fits = omega (arith, inserted_load, room);
        prev = order.prev;
        next = order.next;
      }

  pub inserts : (new : PageRows) → new ≡ record { head = page.head; rows = insert page.rows cut row } → IsPageInOrder new → find_row row.place page.rows ≡ None → Inserts page new row
  inserts new is after vacant = record {
    below = low;
    above = high;
    was = sym parts;
    is = ap (λ (p : PageRows). p.rows) is;
    head = ap (λ (p : PageRows). p.head) is;
    vacant = vacant;
    stands = subst (λ (rows : List Row). find_row row.place rows ≡ Some row) (sym (ap (λ (p : PageRows). p.rows) is)) (find_among low row high (subst PlacesDiffer (ap (λ (p : PageRows). p.rows) is) after.places));
  }

-- the rows without the one with a number
module _ (page : PageRows) (place at : ℕ) (order : IsPageInOrder page) (position : IsPosition page.rows place at) where
  around : page.rows ≡ take at page.rows ++ position.row ∷ drop (suc at) page.rows
  around = get_split page.rows at position.row position.there

  -- a row less takes its charge away
  pub deleted_load : load_of page.rows ≡ load_of (remove page.rows at) + charge_of position.row.key position.row.body
  deleted_load = ap load_of around ∙ load_of-among (take at page.rows) position.row (drop (suc at) page.rows)

  pub deleted_order : PlacesDiffer (remove page.rows at) → IsPageInOrder (record { head = page.head; rows = remove page.rows at })
  deleted_order places =
      let low = take at page.rows in
      let high = drop (suc at) page.rows in
      let each = subst (AllByRecursion (IsRowOf page.head)) around order.each in
      record {
        ascend = ascends_out low position.row high (subst RowsAscend around order.ascend);
        places = places;
        each = each_append (IsRowOf page.head) low high (each_left (IsRowOf page.head) low (position.row ∷ high) each) (each_right (IsRowOf page.head) low (position.row ∷ high) each).1;
        fits = omega (arith, deleted_load, order.fits);
        prev = order.prev;
        next = order.next;
      }

  pub deletes : (new : PageRows) → new ≡ record { head = page.head; rows = remove page.rows at } → Deletes page new place
  deletes new is = record {
    left = take at page.rows;
    row = position.row;
    right = drop (suc at) page.rows;
    was = around;
    place_is = position.place_is;
    is = ap (λ (p : PageRows). p.rows) is;
    head = ap (λ (p : PageRows). p.head) is;
  }
