-- A pointer put in by its key stands right behind the row in whose range the key is.
use Rattle.std.proofs.Common.{◌≡◌, ◌≢◌, ℕ, Bool, true, false, [], ◌∷◌, ◌++◌, List, sym, subst, ◌∙◌, append_assoc}
use Rattle.std.proofs.lemmas.Bool.{both_ways}
use Rattle.std.specs.List.{AllByRecursion}
use Rattle.key_tuple.specs.Order.{FieldList}
use Rattle.key_tuple.specs.KeyPlace.{At, before}
use Rattle.key_tuple.proofs.PlaceLemmas.{before-itself, before-trans, before_not_after}
use Rattle.index_page.specs.Rows.{Row, Child, LacksKey}
use Rattle.index_page.specs.Page.{PageRows, FitsLevel, RowsAscend, IsRowOf, IsPageInOrder}
use Rattle.index_page.specs.Changes.{Inserts}
use Rattle.index_page.proofs.RowLemmas.{ascends_right}
use Rattle.list_facts.proofs.Each.{each_right, each_append, each_weaker}
use Rattle.tree_restructure.specs.Pointers.{BeginsAfter, RangeHas}

-- the row comes before the key, or after it
abbrev IsBelow : FieldList → Row → Type 0
IsBelow at y = before (At y.key) (At at) ≡ true

abbrev IsAbove : FieldList → Row → Type 0
IsAbove at y = before (At at) (At y.key) ≡ true

-- rows before a row that comes before the key come before it too
below_too : (fore : List Row) (this : Row) (aft : List Row) (at : FieldList)
    → RowsAscend (fore ++ this ∷ aft) → IsBelow at this → AllByRecursion (IsBelow at) fore
below_too [] this aft at asc b = tt
below_too (z ∷ zs) this aft at asc b = (
  before-trans (At z.key) (At this.key) (At at)
      (each_right (λ (y : Row). before (At z.key) (At y.key) ≡ true) zs (this ∷ aft) asc.0).0 b,
  below_too zs this aft at asc.1 b,
)

-- and so do those behind one that comes after it
above_too : (aft : List Row) (at : FieldList) → RowsAscend aft → BeginsAfter at aft
    → AllByRecursion (IsAbove at) aft
above_too [] at asc b = tt
above_too (z ∷ zs) at asc b = (
  b,
  each_weaker (λ (y : Row). before (At z.key) (At y.key) ≡ true) (IsAbove at)
      (λ y h. before-trans (At at) (At z.key) (At y.key) b h) zs asc.0,
)

-- keys of which one comes before the other are two
apart_keys : (j k : FieldList) → before (At j) (At k) ≡ true → j ≢ k
apart_keys j k b e = both_ways (before (At k) (At k)) (before-itself (At k))
    (subst (λ z. before (At z) (At k) ≡ true) e b)

module _ (page : PageRows) (left : ℕ) (at : FieldList) (order : IsPageInOrder page)
    (range : RangeHas page left at) where
  rise : RowsAscend (range.fore ++ range.this ∷ range.aft)
  rise = subst RowsAscend range.was order.ascend

  -- no row has a key that is inside a range
  pub lacks_inside : LacksKey at page.rows
  lacks_inside = subst (LacksKey at) (sym range.was)
      (each_append (λ (y : Row). y.key ≢ at) range.fore (range.this ∷ range.aft)
      (each_weaker (IsBelow at) (λ (y : Row). y.key ≢ at) (λ y b. apart_keys y.key at b)
      range.fore (below_too range.fore range.this range.aft at rise range.above)) (
        apart_keys range.this.key at range.above,
        each_weaker (IsAbove at) (λ (y : Row). y.key ≢ at)
            (λ y b e. apart_keys at y.key b (sym e)) range.aft
            (above_too range.aft at (ascends_right range.fore (range.this ∷ range.aft) rise).1
            range.below),
      ))

  -- a page with a pointer is an inner page
  pub inner_page : (child : ℕ) → FitsLevel page.head.level (Child child)
  inner_page child = let suits = (each_right (IsRowOf page.head) range.fore (range.this ∷ range.aft)
      (subst (AllByRecursion (IsRowOf page.head)) range.was order.each)).0 in
      subst (FitsLevel page.head.level) range.this_is suits.body

-- the first, if there is one, lets the test pass
abbrev FirstIn : (Row → Bool) → List Row → Type 0
FirstIn q [] = Unit {0}
FirstIn q (y ∷ ys) = q y ≡ true

module _ (q : Row → Bool) where
  -- rows that were parted by the test are parted right behind the last row before it
  behind : (below above fore : List Row) (x : Row) (aft : List Row)
      → below ++ above ≡ fore ++ x ∷ aft → AllByRecursion (λ (y : Row). q y ≡ false) below
      → AllByRecursion (λ (y : Row). q y ≡ true) above
      → q x ≡ false → FirstIn q aft → (below ≡ fore ++ x ∷ []) × (above ≡ aft)
  behind [] above fore x aft e b a out first = absurd (both_ways (q x) out
      (each_right (λ (y : Row). q y ≡ true) fore (x ∷ aft)
      (subst (AllByRecursion (λ (y : Row). q y ≡ true)) e a)).0)
  behind (y ∷ []) above [] x aft e b a out first = let one : y ≡ x = cc in
      let rest : above ≡ aft = cc in ((λ i. one i ∷ []), rest)
  behind (y ∷ z ∷ zs) above [] x aft e b a out first = let rest : z ∷ zs ++ above ≡ aft = cc in
      absurd (both_ways (q z) b.1.0 (subst (FirstIn q) (sym rest) first))
  behind (y ∷ ys) above (f ∷ fs) x aft e b a out first = let one : y ≡ f = cc in
      let tails : ys ++ above ≡ fs ++ x ∷ aft = cc in
      let rest = behind ys above fs x aft tails b.1 a out first in
      ((λ i. one i ∷ rest.0 i), rest.1)

below_row : (xs : List Row) (x : Row) (ys : List Row) → RowsAscend (xs ++ x ∷ ys)
    → AllByRecursion (IsBelow x.key) xs
below_row [] x ys asc = tt
below_row (z ∷ zs) x ys asc = (
  (each_right (λ (y : Row). before (At z.key) (At y.key) ≡ true) zs (x ∷ ys) asc.0).0,
  below_row zs x ys asc.1,
)

first_in : (at : FieldList) (aft : List Row) → BeginsAfter at aft
    → FirstIn (λ (y : Row). before (At at) (At y.key)) aft
first_in at [] b = tt
first_in at (x ∷ xs) b = b

-- so stands a row that was put in
pub puts_behind : (page new : PageRows) (left : ℕ) (row : Row) → Inserts page new row
    → IsPageInOrder new → (range : RangeHas page left row.key)
    → new.rows ≡ range.fore ++ range.this ∷ row ∷ range.aft
puts_behind page new left row i order range =
    let q = λ (y : Row). before (At row.key) (At y.key) in
    let rises = subst RowsAscend i.is order.ascend in
    let below = each_weaker (IsBelow row.key) (λ (y : Row). q y ≡ false)
    (λ y b. before_not_after (At y.key) (At row.key) b) i.below
    (below_row i.below row i.above rises) in
    let above = (ascends_right i.below (row ∷ i.above) rises).0 in
    let parts = behind q i.below i.above range.fore range.this range.aft (sym i.was ∙ range.was)
    below above (before_not_after (At range.this.key) (At row.key) range.above)
    (first_in row.key range.aft range.below) in
    i.is ∙ ((λ j. parts.0 j ++ row ∷ parts.1 j)
    ∙ append_assoc range.fore (range.this ∷ []) (row ∷ range.aft))
