-- The rows of a root that rises, and its one pointer.
use Rattle.std.proofs.Common.{◌≡◌, ◌≢◌, ◌≤◌, ℕ, zero, suc, true, [], ◌∷◌, ◌++◌, List, sym, subst, ◌∙◌, refl, arith, replicate, Some, None}
use lib.ListN.{length-replicate}
use Rattle.key_tuple.specs.Limits.{IsWithinLimits}
use Rattle.key_tuple.specs.Order.{byte_count}
use Rattle.key_tuple.specs.KeyPlace.{Start}
use Rattle.key_tuple.specs.declared.TheConstants.{MAX_FIELDS}
use Rattle.index_page.specs.Rows.{Row, SameRows, first_of_rows, IsAt}
use Rattle.index_page.specs.Page.{PageRows, PlacesDiffer, IsRowOf, IsPageInOrder}
use Rattle.index_page.specs.Changes.{Inserts}
use Rattle.index_page.specs.Moves.{MovesTail}
use Rattle.std.specs.List.{AllByRecursion}
use Rattle.tree_law.specs.Pages.{is_empty, from_place}
use Rattle.tree_restructure.proofs.WalkLemmas.{same_parts}

-- a key of empty fields has no bytes, and begins before all keys
pub no_bytes : (n : ℕ) → byte_count (replicate n []) ≡ 0
no_bytes zero = refl
no_bytes (suc n) = omega (arith, no_bytes n)

pub blank_limits : (n : ℕ) → n ≤ MAX_FIELDS → IsWithinLimits (replicate n [])
blank_limits n few = record {
  few = omega (arith, length-replicate {A = List ℕ} n []);
  short = omega (arith, no_bytes n);
}

blank_is_empty : (n : ℕ) → is_empty (replicate n []) ≡ true
blank_is_empty zero = refl
blank_is_empty (suc n) = blank_is_empty n

pub blank_begins : (n : ℕ) → from_place (replicate n []) ≡ Start
blank_begins n = rw (blank_is_empty n) refl

-- a row that was put in on a page without rows is the only one
pub only_row : (page new : PageRows) (row : Row) → page.rows ≡ [] → Inserts page new row
    → new.rows ≡ row ∷ []
only_row page new row none i = go i.below i.above (sym i.was ∙ none) i.is
  where
    go : (below above : List Row) → below ++ above ≡ [] → new.rows ≡ below ++ row ∷ above
        → new.rows ≡ row ∷ []
    go [] [] e is = is
    go [] (y ∷ ys) e is = absurd cc
    go (y ∷ ys) above e is = absurd cc

-- a page with rows has a first one
pub no_first : (rows : List Row) → rows ≢ [] → IsAt rows None (first_of_rows rows) → ⊥
no_first [] some a = some refl
no_first (x ∷ rows) some a = absurd (cc a.0)

-- the rows from the first one on are all rows
pub all_go : (page mid fresh got : PageRows) (first : ℕ) → IsPageInOrder page
    → IsAt page.rows (Some first) (first_of_rows page.rows) → MovesTail page mid fresh got first
    → SameRows page.rows got.rows
all_go page mid fresh got first order at m = go page.rows refl at
  where
    go : (rows : List Row) → page.rows ≡ rows → IsAt page.rows (Some first) (first_of_rows rows)
        → SameRows page.rows got.rows
    go [] e a = absurd cc
    go (x ∷ xs) e a = let same : first ≡ x.place = cc a.0 in
        let parts = same_parts [] x xs m.left m.row m.right (subst PlacesDiffer e order.places)
        (sym e ∙ m.was) (sym same ∙ sym m.place_is) in
        let whole : m.row ∷ m.right ≡ page.rows =
        (λ i. (sym parts.1) i ∷ (sym parts.2) i) ∙ sym e in
        subst (λ (zs : List Row). SameRows zs got.rows) whole m.go

-- the keys of a page with rows have few fields
pub few_fields : (page : PageRows) → IsPageInOrder page → page.rows ≢ []
    → page.head.fields ≤ MAX_FIELDS
few_fields page order some = go page.rows refl order.each
  where
    go : (rows : List Row) → page.rows ≡ rows → AllByRecursion (IsRowOf page.head) rows
        → page.head.fields ≤ MAX_FIELDS
    go [] e a = absurd (some e)
    go (x ∷ xs) e a = omega (arith, a.0.fields, a.0.limits.few)
