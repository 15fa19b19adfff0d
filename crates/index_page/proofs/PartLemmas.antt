-- Parts of a page in order are pages in order.
use Rattle.std.proofs.Common.{◌≡◌, ◌≢◌, ℕ, zero, suc, ◌+◌, ◌≤◌, true, Some, List, [], ◌∷◌, ◌++◌, refl, sym, ap, ◌∙◌, subst, arith, take, drop}
use Rattle.std.proofs.lemmas.List.{take-append-drop}
use Rattle.std.specs.List.{AllByRecursion, slice_get}
use Rattle.key_tuple.specs.KeyPlace.{At, before}
use Rattle.index_page.specs.declared.TheConstants.{PAGE_ROOM}
use Rattle.index_page.specs.declared.head.PageHead.{PageHead}
use Rattle.index_page.specs.Rows.{Row, SameRows}
use Rattle.index_page.specs.Page.{PageRows, IsNeighbour, FitsLevel, RowsAscend, PlacesDiffer, IsRowOf, IsPageInOrder}
use Rattle.index_page.specs.Search.{IsPosition}
use Rattle.index_page.specs.Moves.{MovesTail}
use Rattle.index_page.specs.Loads.{load_of}
use Rattle.list_facts.proofs.Each.{each_left, each_right, each_weaker}
use Rattle.index_page.proofs.RowLemmas.{get_split, ascends_right}
use Rattle.index_page.proofs.HalvesLemmas.{load_of-parts}

ascends_left : (xs ys : List Row) → RowsAscend (xs ++ ys) → RowsAscend xs
ascends_left [] ys a = tt
ascends_left (x ∷ xs) ys a = (each_left (λ (y : Row). before (At x.key) (At y.key) ≡ true) xs ys a.0, ascends_left xs ys a.1)

differ_left : (xs ys : List Row) → PlacesDiffer (xs ++ ys) → PlacesDiffer xs
differ_left [] ys d = tt
differ_left (x ∷ xs) ys d = (each_left (λ (y : Row). y.place ≢ x.place) xs ys d.0, differ_left xs ys d.1)

differ_right : (xs ys : List Row) → PlacesDiffer (xs ++ ys) → PlacesDiffer ys
differ_right [] ys d = d
differ_right (x ∷ xs) ys d = differ_right xs ys d.1

pub same_rows : (xs : List Row) → SameRows xs xs
same_rows [] = tt
same_rows (x ∷ xs) = (refl, refl, same_rows xs)

-- a row suits a head of the same level and number of fields
pub suits_too : (head other : PageHead) → other.level ≡ head.level → other.fields ≡ head.fields → (x : Row) → IsRowOf head x → IsRowOf other x
suits_too head other level fields x of = record {
  fields = of.fields ∙ sym fields;
  limits = of.limits;
  body = subst (λ n. FitsLevel n x.body) (sym level) of.body;
  short = of.short;
}

module _ (page : PageRows) (k : ℕ) (order : IsPageInOrder page) where
  parts : take k page.rows ++ drop k page.rows ≡ page.rows
  parts = take-append-drop k page.rows

  fits : load_of (take k page.rows) + load_of (drop k page.rows) ≤ PAGE_ROOM
  fits = omega (arith, load_of-parts page.rows k, order.fits)

  -- the first rows
  pub first_rows : IsPageInOrder (record { head = page.head; rows = take k page.rows })
  first_rows = record {
    ascend = ascends_left (take k page.rows) (drop k page.rows) (subst RowsAscend (sym parts) order.ascend);
    places = differ_left (take k page.rows) (drop k page.rows) (subst PlacesDiffer (sym parts) order.places);
    each = each_left (IsRowOf page.head) (take k page.rows) (drop k page.rows) (subst (AllByRecursion (IsRowOf page.head)) (sym parts) order.each);
    fits = omega (arith, fits);
    prev = order.prev;
    next = order.next;
  }

  -- the other rows, on another page
  pub other_rows : (head : PageHead) → head.level ≡ page.head.level → head.fields ≡ page.head.fields → IsNeighbour head.prev → IsNeighbour head.next → IsPageInOrder (record { head = head; rows = drop k page.rows })
  other_rows head level fields prev next = record {
    ascend = ascends_right (take k page.rows) (drop k page.rows) (subst RowsAscend (sym parts) order.ascend);
    places = differ_right (take k page.rows) (drop k page.rows) (subst PlacesDiffer (sym parts) order.places);
    each = each_weaker (IsRowOf page.head) (IsRowOf head) (suits_too page.head head level fields) (drop k page.rows) (each_right (IsRowOf page.head) (take k page.rows) (drop k page.rows) (subst (AllByRecursion (IsRowOf page.head)) (sym parts) order.each));
    fits = omega (arith, fits);
    prev = prev;
    next = next;
  }

drop_at : (rows : List Row) (i : ℕ) (x : Row) → slice_get rows i ≡ Some x → drop i rows ≡ x ∷ drop (suc i) rows
drop_at [] i x e = absurd cc
drop_at (y ∷ rows) zero x e = let is : y ≡ x = cc in ap (λ (z : Row). z ∷ rows) is
drop_at (y ∷ rows) (suc i) x e = drop_at rows i x e

-- a page that kept the rows before a number, and one that got the others
pub moves_tail : (old new to_old to_new : PageRows) (first at : ℕ) → IsPosition old.rows first at → new.head ≡ old.head → new.rows ≡ take at old.rows → to_new.head ≡ to_old.head → SameRows (drop at old.rows) to_new.rows → MovesTail old new to_old to_new first
moves_tail old new to_old to_new first at position head stay to_head go = record {
  left = take at old.rows;
  row = position.row;
  right = drop (suc at) old.rows;
  was = get_split old.rows at position.row position.there;
  place_is = position.place_is;
  stay = stay;
  go = subst (λ (rows : List Row). SameRows rows to_new.rows) (drop_at old.rows at position.row position.there) go;
  head = head;
  to_head = to_head;
}
