-- Rows that rise over two pages, and the one row of a key.
use Rattle.std.proofs.Common.{◌≡◌, ◌≢◌, ℕ, true, false, List, [], ◌∷◌, ◌++◌, refl, sym, ap, ◌∙◌, subst, inl, inr, length, Some}
use Rattle.std.proofs.lemmas.Bool.{cases_eq}
use Rattle.std.specs.List.{AllByRecursion}
use Rattle.key_tuple.specs.Order.{FieldList}
use Rattle.key_tuple.specs.KeyPlace.{At, before}
use Rattle.key_tuple.proofs.PlaceLemmas.{before-itself, before_upto}
use Rattle.list_facts.proofs.Each.{each_right, each_append, each_weaker}
use Rattle.list_facts.proofs.Places.{same_some}
use Rattle.index_page.specs.declared.spot.Spot.{Spot}
use Rattle.index_page.specs.Rows.{Row, SameRows, find_row}
use Rattle.index_page.specs.Page.{PageRows, RowsAscend, PlacesDiffer, IsRowOf, IsPageInOrder}
use Rattle.index_page.specs.Changes.{Deletes}
use Rattle.index_page.specs.Laws.{HasKeyAfter, TellsKey}
use Rattle.index_page.proofs.RowLemmas.{find_among}
use Rattle.tree_merging.specs.Siblings.{PartsAt}
use Rattle.tree_merging.specs.Merges.{KeyStands, LosesKey}

-- rows that a key parts rise together
pub rises_over : (at : FieldList) (lower upper : List Row) → RowsAscend lower → RowsAscend upper
    → PartsAt at lower upper → RowsAscend (lower ++ upper)
rises_over at [] upper a b p = b
rises_over at (x ∷ lower) upper a b p = (
  each_append (λ (y : Row). before (At x.key) (At y.key) ≡ true) lower upper a.0
      (each_weaker (λ (y : Row). before (At y.key) (At at) ≡ false)
      (λ (y : Row). before (At x.key) (At y.key) ≡ true)
      (λ y h. before_upto (At x.key) (At at) (At y.key) p.below.0 h) upper p.from),
  rises_over at lower upper a.1 b (record { below = p.below.1; from = p.from }),
)

-- the same rows are so both ways
pub same_back : (xs ys : List Row) → SameRows xs ys → SameRows ys xs
same_back [] [] s = tt
same_back [] (y ∷ ys) s = absurd s
same_back (x ∷ xs) [] s = absurd s
same_back (x ∷ xs) (y ∷ ys) s = (sym s.0, sym s.1, same_back xs ys s.2)

-- no row that comes after another has its key
no_later : (x : Row) (xs : List Row) (y : Row) (ys : List Row)
    → AllByRecursion (λ (z : Row). before (At x.key) (At z.key) ≡ true) (xs ++ y ∷ ys)
    → x.key ≡ y.key → ⊥
no_later x xs y ys a e =
    let later = (each_right (λ (z : Row). before (At x.key) (At z.key) ≡ true) xs (y ∷ ys) a).0 in
    let itself : before (At x.key) (At x.key) ≡ true =
    ap (λ k. before (At x.key) (At k)) e ∙ later in
    absurd (cc (itself, before-itself (At x.key)))

-- rising rows are parted around the row of a key in one way
pub same_key_parts : (xs : List Row) (x : Row) (ys cs : List Row) (a : Row) (bs : List Row)
    → RowsAscend (xs ++ x ∷ ys) → xs ++ x ∷ ys ≡ cs ++ a ∷ bs → x.key ≡ a.key
    → (xs ≡ cs) × (x ≡ a) × (ys ≡ bs)
same_key_parts [] x ys [] a bs r e k = let one : x ≡ a = cc in let rest : ys ≡ bs = cc in
    (refl, one, rest)
same_key_parts [] x ys (b ∷ cs) a bs r e k = let rest : ys ≡ cs ++ a ∷ bs = cc in
    absurd (no_later x cs a bs
    (subst (AllByRecursion (λ (y : Row). before (At x.key) (At y.key) ≡ true)) rest r.0) k)
same_key_parts (z ∷ xs) x ys [] a bs r e k = let one : z ≡ a = cc in
    absurd (no_later z xs x ys r.0 (ap (λ (y : Row). y.key) one ∙ sym k))
same_key_parts (z ∷ xs) x ys (b ∷ cs) a bs r e k = let one : z ≡ b = cc in
    let rest : xs ++ x ∷ ys ≡ cs ++ a ∷ bs = cc in
    let parts = same_key_parts xs x ys cs a bs r.1 rest k in
    ((λ i. one i ∷ parts.0 i), parts.1, parts.2)

-- a key that stands on the page has its number of fields
pub key_fields : (page : PageRows) (key : FieldList) → IsPageInOrder page → KeyStands page key
    → length key ≡ page.head.fields
key_fields page key order k = ap length (sym k.is_key)
    ∙ (each_right (IsRowOf page.head) k.fore (k.row ∷ k.aft)
    (subst (AllByRecursion (IsRowOf page.head)) k.was order.each)).0.fields

-- a search for a key that stands on the page finds it
pub key_after : (page : PageRows) (key : FieldList) (spot : Spot) → KeyStands page key
    → TellsKey key page.rows spot → HasKeyAfter key page.rows spot
key_after page key spot k t = elim (cases_eq spot.up.fields (length key)) [
  | inl e ↦ t.there e
  | inr ne ↦ absurd ((each_right (λ (x : Row). x.key ≢ key) k.fore (k.row ∷ k.aft)
      (subst (AllByRecursion (λ (x : Row). x.key ≢ key)) k.was (t.absent ne))).0 k.is_key)
]

-- a page whose row at the place of a key was taken out lost that key
pub loses_key : (page new : PageRows) (key : FieldList) (spot : Spot) (place : ℕ)
    → IsPageInOrder page → HasKeyAfter key page.rows spot → spot.after ≡ Some place
    → Deletes page new place → IsPageInOrder new → LosesKey page new key
loses_key page new key spot place order h after d o = record {
  rows = λ fore row aft was is. (let parts = same_key_parts d.left d.row d.right fore row aft
      (subst RowsAscend d.was order.ascend) (sym d.was ∙ was) (deleted ∙ sym is) in
      d.is ∙ (λ i. parts.0 i ++ parts.2 i));
  head = d.head;
  order = o;
}
  where
    same_place : place ≡ h.row.place
    same_place = same_some place h.row.place (sym after ∙ h.after_at.0)

    there : find_row place page.rows ≡ Some d.row
    there = subst (λ (n : ℕ). find_row n page.rows ≡ Some d.row) d.place_is
        (ap (find_row d.row.place) d.was
        ∙ find_among d.left d.row d.right (subst PlacesDiffer d.was order.places))

    same_row : d.row ≡ h.row
    same_row = same_some d.row h.row (sym there
        ∙ (ap (λ (n : ℕ). find_row n page.rows) same_place ∙ h.after_at.1))

    deleted : d.row.key ≡ key
    deleted = ap (λ (x : Row). x.key) same_row ∙ h.key_is
