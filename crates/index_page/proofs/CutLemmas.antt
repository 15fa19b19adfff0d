-- A cut among rising rows, and the rows around a whole key.
use Rattle.std.proofs.Common.{◌≡◌, ◌≢◌, ℕ, zero, suc, Bool, true, false, not, Some, List, [], ◌∷◌, ◌++◌, refl, sym, ap, ◌∙◌, subst, length, take, drop, is_lt, is_gt, Ordering, Less, Equal, Greater}
use Rattle.std.proofs.lemmas.Bool.{both_ways, not-true, not-false}
use Rattle.std.specs.List.{AllByRecursion, slice_get}
use Rattle.std.specs.Ordering.{ordering_reverse}
use Rattle.key_tuple.specs.Order.{FieldList, key_cmp}
use Rattle.key_tuple.specs.KeyPlace.{KeyPlace, At, before, IsCut, not_below, cut_of}
use Rattle.key_tuple.specs.declared.mode.Mode.{Mode}
use Rattle.key_tuple.specs.declared.mode.Mode.TheVariants.{Ge, G, Le, L}
use Rattle.key_tuple.proofs.PlaceLemmas.{total, before-tied, before-itself}
use Rattle.key_tuple.proofs.TupleLemmas.{not_below_cut, above_cut, tuple_cmp-whole}
use Rattle.index_page.specs.Rows.{Row, first_of_rows}
use Rattle.index_page.specs.Page.{RowsAscend}
use Rattle.index_page.specs.Search.{AllOut, AllIn}
use Rattle.list_facts.proofs.Each.{each_weaker, each_get, each_right}

pub mode_cuts : (mode : Mode) (t : FieldList) → IsCut (cut_of mode t)
mode_cuts Ge t = not_below_cut t
mode_cuts G t = above_cut t
mode_cuts Le t = above_cut t
mode_cuts L t = not_below_cut t

not_true : (b : Bool) → (b ≡ true → ⊥) → b ≡ false
not_true true f = absurd (f refl)
not_true false f = refl

-- places of keys are one where the keys are
same_key : (j k : FieldList) → At j ≡ At k → j ≡ k
same_key j k e = cc

module _ (p : KeyPlace → Bool) (cut : IsCut p) where
  -- what is above an admitted row is admitted
  pub in_from : (rows : List Row) (i : ℕ) (x : Row) → RowsAscend rows → slice_get rows i ≡ Some x → p (At x.key) ≡ true → AllIn p (drop i rows)
  in_from [] i x asc e t = absurd cc
  in_from (y ∷ rows) zero x asc e t =
      let is : x ≡ y = cc in
      let admitted : p (At y.key) ≡ true = subst (λ (z : Row). p (At z.key) ≡ true) is t in
      (admitted, each_weaker (λ (z : Row). before (At y.key) (At z.key) ≡ true) (λ (z : Row). p (At z.key) ≡ true) (λ z b. cut.rises (At y.key) (At z.key) b admitted) rows asc.0)
  in_from (y ∷ rows) (suc i) x asc e t = in_from rows i x asc.1 e t

  -- what is below a row that is left out is left out
  pub out_upto : (rows : List Row) (i : ℕ) (x : Row) → RowsAscend rows → slice_get rows i ≡ Some x → p (At x.key) ≡ false → AllOut p (take (suc i) rows)
  out_upto [] i x asc e f = absurd cc
  out_upto (y ∷ rows) zero x asc e f = let is : x ≡ y = cc in (subst (λ (z : Row). p (At z.key) ≡ false) is f, tt)
  out_upto (y ∷ rows) (suc i) x asc e f =
      let rises : before (At y.key) (At x.key) ≡ true = each_get (λ (z : Row). before (At y.key) (At z.key) ≡ true) rows i x asc.0 e in
      (not_true (p (At y.key)) (λ t. both_ways (p (At x.key)) f (cut.rises (At y.key) (At x.key) rises t)), out_upto rows i x asc.1 e f)

-- against a key of as many fields, not to be below is not to come before
pub not_below-whole : (key k : FieldList) → length key ≡ length k → not_below key (At k) ≡ not (before (At k) (At key))
unfolding not_below before
not_below-whole key k long = ap (λ o. not (is_gt o)) (tuple_cmp-whole key k long) ∙ go (key_cmp k key) (key_cmp key k) (total.antisymm key k)
  where
    go : (o r : Ordering) → r ≡ ordering_reverse o → not (is_gt r) ≡ not (is_lt o)
    go Less r e = ap (λ z. not (is_gt z)) e
    go Equal r e = ap (λ z. not (is_gt z)) e
    go Greater r e = ap (λ z. not (is_gt z)) e

pub not_below-itself : (key : FieldList) → not_below key (At key) ≡ true
not_below-itself key = not_below-whole key key refl ∙ ap not (before-itself (At key))

-- a row that isn't below a key of as many fields and hasn't it comes after it
pub after_key : (key k : FieldList) → length key ≡ length k → k ≢ key → not_below key (At k) ≡ true → before (At key) (At k) ≡ true
after_key key k long other t = go (before (At key) (At k)) refl
  where
    up : before (At k) (At key) ≡ false
    up = not-true (before (At k) (At key)) (sym (not_below-whole key k long) ∙ t)

    go : (b : Bool) → before (At key) (At k) ≡ b → before (At key) (At k) ≡ true
    go true e = e
    go false e = absurd (other (same_key k key (before-tied (At k) (At key) up e)))

-- and one that is below it comes before it
pub before_key : (key k : FieldList) → length key ≡ length k → not_below key (At k) ≡ false → before (At k) (At key) ≡ true
before_key key k long f = not-false (before (At k) (At key)) (sym (not_below-whole key k long) ∙ f)

-- a whole key's row is the first that the cut before the key admits
pub first_with_key : (key : FieldList) (left right xs ys : List Row) (row : Row) → RowsAscend right → AllByRecursion (λ (x : Row). length key ≡ length x.key) right → AllOut (not_below key) left → AllIn (not_below key) right → left ++ right ≡ xs ++ row ∷ ys → row.key ≡ key → first_of_rows right ≡ Some row
first_with_key key [] right [] ys row asc long out past e is = ap first_of_rows e
first_with_key key [] right (x ∷ xs) ys row asc long out past e is =
    let up = subst RowsAscend e asc in
    let rises : before (At x.key) (At row.key) ≡ true = (each_right (λ (z : Row). before (At x.key) (At z.key) ≡ true) xs (row ∷ ys) up.0).0 in
    let fields = (subst (AllByRecursion (λ (z : Row). length key ≡ length z.key)) e long).0 in
    let admitted = (subst (AllIn (not_below key)) e past).0 in
    absurd (both_ways (before (At x.key) (At key)) (not-true (before (At x.key) (At key)) (sym (not_below-whole key x.key fields) ∙ admitted)) (subst (λ (k : FieldList). before (At x.key) (At k) ≡ true) is rises))
first_with_key key (l ∷ left) right [] ys row asc long out past e is =
    let same : l ≡ row = cc in
    let here : l.key ≡ key = ap (λ (z : Row). z.key) same ∙ is in
    absurd (both_ways (not_below key (At key)) (subst (λ (k : FieldList). not_below key (At k) ≡ false) here out.0) (not_below-itself key))
first_with_key key (l ∷ left) right (x ∷ xs) ys row asc long out past e is = first_with_key key left right xs ys row asc long out.1 past (ap (λ (zs : List Row). drop 1 zs) e) is
