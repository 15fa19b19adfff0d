-- The halves of a page that was cut.
use Rattle.std.proofs.Common.{◌≡◌, ℕ, List, [], ◌∷◌, sym, ap, ◌∙◌, subst, length, Some}
use Rattle.key_tuple.specs.Order.{FieldList}
use Rattle.index_page.specs.Rows.{Row, SameRows}
use Rattle.index_page.specs.Page.{PageRows, PlacesDiffer, linked, IsPageInOrder}
use Rattle.index_page.specs.Loads.{HalvesRows}
use Rattle.index_page.specs.Moves.{MovesTail}
use Rattle.tree_law.specs.PageMoves.{BeginsAt}
use Rattle.tree_restructure.specs.Cuts.{HalvesAt, CutsPage}
use Rattle.tree_restructure.proofs.WalkLemmas.{same_parts}

-- the same rows begin with the same key
begins_too : (x : Row) (xs ys : List Row) (at : FieldList) → x.key ≡ at → SameRows (x ∷ xs) ys
    → BeginsAt at ys
begins_too x xs [] at e s = s
begins_too x xs (y ∷ ys) at e s = sym s.0 ∙ e

-- rows that moved from the cut on, between pages that were linked, make two halves
pub cuts_page : (page mid stays fresh got new : PageRows) (place : ℕ) (at : FieldList)
    → IsPageInOrder page → HalvesAt page.rows place at → MovesTail page mid fresh got place
    → stays.head ≡ linked mid.head page.head.prev (Some fresh.head.number)
    → stays.rows ≡ mid.rows
    → new.head ≡ linked got.head (Some page.head.number) page.head.next → new.rows ≡ got.rows
    → IsPageInOrder stays → IsPageInOrder new → CutsPage page stays fresh new at
cuts_page page mid stays fresh got new place at order cut m head rows new_head new_rows o n =
    let h = cut.half in
    let parts = same_parts h.lower h.row h.above m.left m.row m.right
    (subst PlacesDiffer h.was order.places) (sym h.was ∙ m.was) (h.place_is ∙ sym m.place_is) in
    let key : m.row.key ≡ at = ap (λ (x : Row). x.key) (sym parts.1) ∙ cut.key_is in
    let go = subst (SameRows (m.row ∷ m.right)) (sym new_rows) m.go in record {
      lower = m.left;
      upper = m.row ∷ m.right;
      whole = order;
      was = m.was;
      halves = subst (λ (xs : List Row). HalvesRows page.rows (length xs)) parts.0 h.halves;
      stay = rows ∙ m.stay;
      go = go;
      begins = begins_too m.row m.right new.rows at key go;
      head = head ∙ ap (λ h. linked h page.head.prev (Some fresh.head.number)) m.head;
      new_head = new_head ∙ ap (λ h. linked h (Some page.head.number) page.head.next) m.to_head;
      order = o;
      new_order = n;
    }
