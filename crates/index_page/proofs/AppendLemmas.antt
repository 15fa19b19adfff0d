-- Rows put behind others.
use Rattle.std.proofs.Common.{◌≡◌, ℕ, zero, suc, ◌+◌, ◌≤◌, true, Some, List, [], ◌∷◌, ◌++◌, refl, sym, ap, ◌∙◌, subst, add-one, arith, length, length-append, append-nil, append_assoc, take, drop}
use Rattle.std.proofs.lemmas.List.Sums.{sum_by-append}
use Rattle.std.proofs.Math.Seq.{take-length, drop-length, take-append_seam}
use Rattle.std.specs.List.{AllByRecursion, slice_get, insert}
use Rattle.key_tuple.specs.KeyPlace.{At, before}
use Rattle.key_tuple.specs.Order.{FieldList}
use Rattle.key_tuple.specs.Limits.{IsWithinLimits}
use Rattle.index_page.specs.declared.TheConstants.{PAGE_ROOM}
use Rattle.index_page.specs.declared.head.PageHead.{PageHead}
use Rattle.index_page.specs.Rows.{RowBody, Row, SameRows}
use Rattle.index_page.specs.Page.{IsNeighbour, FitsLevel, HasShortValue, RowsAscend, PlacesDiffer, IsRowOf, IsPageInOrder}
use Rattle.index_page.specs.Store.{Appends}
use Rattle.index_page.specs.Loads.{load_of}
use Rattle.list_facts.proofs.Each.{each_append}
use Rattle.index_page.proofs.LoadLemmas.{row_charge, load_of-cons}
use Rattle.index_page.proofs.HalvesLemmas.{some_charge}

pub same-length : (xs ys : List Row) → SameRows xs ys → length xs ≡ length ys
same-length [] [] s = refl
same-length [] (y ∷ ys) s = absurd s
same-length (x ∷ xs) [] s = absurd s
same-length (x ∷ xs) (y ∷ ys) s = omega (arith, same-length xs ys s.2)

insert-end : (rows : List Row) (x : Row) → insert rows (length rows) x ≡ rows ++ x ∷ []
insert-end rows x = cc (take-length rows, drop-length rows)

-- one more of the rows is behind
same_more : (rows moved : List Row) (i : ℕ) (x y : Row) → SameRows (take i rows) moved → slice_get rows i ≡ Some x → x.key ≡ y.key → x.body ≡ y.body → SameRows (take (suc i) rows) (moved ++ y ∷ [])
same_more [] moved i x y s e k b = absurd cc
same_more (r ∷ rows) [] zero x y s e k b =
    let is : r ≡ x = cc in
    (ap (λ (z : Row). z.key) is ∙ k, ap (λ (z : Row). z.body) is ∙ b, tt)
same_more (r ∷ rows) (m ∷ moved) zero x y s e k b = absurd s
same_more (r ∷ rows) [] (suc i) x y s e k b = absurd s
same_more (r ∷ rows) (m ∷ moved) (suc i) x y s e k b = (s.0, s.1, same_more rows moved i x y s.2 e k b)

pub appends_none : (rows others : List Row) → PlacesDiffer rows → Appends rows rows (take 0 others)
appends_none rows others d = record { moved = []; rows = sym (append-nil rows); same = tt; differ = d }

pub appends_more : (old now new others : List Row) (i : ℕ) (x y : Row) → Appends old now (take i others) → new ≡ insert now (length now) y → slice_get others i ≡ Some x → x.key ≡ y.key → x.body ≡ y.body → PlacesDiffer new → Appends old new (take (i + 1) others)
appends_more old now new others i x y a is e k b d = rw add-one (record {
  moved = a.moved ++ y ∷ [];
  rows = is ∙ insert-end now y ∙ ap (λ (zs : List Row). zs ++ y ∷ []) a.rows ∙ append_assoc old a.moved (y ∷ []);
  same = same_more others a.moved i x y a.same e k b;
  differ = d;
})

pub appends_long : (old now others : List Row) → Appends old now others → length now ≡ length old + length others
appends_long old now others a = ap length a.rows ∙ length-append old a.moved ∙ ap (λ n. length old + n) (sym (same-length others a.moved a.same))

pub appends_back : (old now others : List Row) → Appends old now others → take (length old) now ≡ old
appends_back old now others a = ap (take (length old)) a.rows ∙ take-append_seam old a.moved

-- what depends on keys and bodies alone holds of the same rows
each_same : (P : FieldList → RowBody → Type 0) (xs ys : List Row) → SameRows xs ys → AllByRecursion (λ (x : Row). P x.key x.body) xs → AllByRecursion (λ (x : Row). P x.key x.body) ys
each_same P [] [] s a = tt
each_same P [] (y ∷ ys) s a = absurd s
each_same P (x ∷ xs) [] s a = absurd s
each_same P (x ∷ xs) (y ∷ ys) s a = (subst (λ (k : FieldList). P k y.body) s.0 (subst (λ (b : RowBody). P x.key b) s.1 a.0), each_same P xs ys s.2 a.1)

suits_same : (head : PageHead) (xs ys : List Row) → SameRows xs ys → AllByRecursion (IsRowOf head) xs → AllByRecursion (IsRowOf head) ys
suits_same head [] [] s a = tt
suits_same head [] (y ∷ ys) s a = absurd s
suits_same head (x ∷ xs) [] s a = absurd s
suits_same head (x ∷ xs) (y ∷ ys) s a = (moved x y s.0 s.1 a.0, suits_same head xs ys s.2 a.1)
  where
    moved : (x y : Row) → x.key ≡ y.key → x.body ≡ y.body → IsRowOf head x → IsRowOf head y
    moved x y k b of = record {
      fields = subst (λ (f : FieldList). length f ≡ head.fields) k of.fields;
      limits = subst IsWithinLimits k of.limits;
      body = subst (FitsLevel head.level) b of.body;
      short = subst HasShortValue b of.short;
    }

ascends_same : (xs ys : List Row) → SameRows xs ys → RowsAscend xs → RowsAscend ys
ascends_same [] [] s a = tt
ascends_same [] (y ∷ ys) s a = absurd s
ascends_same (x ∷ xs) [] s a = absurd s
ascends_same (x ∷ xs) (y ∷ ys) s a =
    (subst (λ (k : FieldList). AllByRecursion (λ (z : Row). before (At k) (At z.key) ≡ true) ys) s.0 (each_same (λ (k : FieldList) (b : RowBody). before (At x.key) (At k) ≡ true) xs ys s.2 a.0), ascends_same xs ys s.2 a.1)

-- rows that stay, and others at places of their own
same_behind : (old xs ys : List Row) → SameRows xs ys → SameRows (old ++ xs) (old ++ ys)
same_behind [] xs ys s = s
same_behind (x ∷ old) xs ys s = (refl, refl, same_behind old xs ys s)

-- the rows behind the first ones, by their numbers
pub get-drop : (rows : List Row) (k i : ℕ) → slice_get (drop k rows) i ≡ slice_get rows (k + i)
get-drop rows zero i = let same : 0 + i ≡ i = omega arith in ap (slice_get rows) (sym same)
get-drop [] (suc k) i = refl
get-drop (x ∷ rows) (suc k) i = let more : suc k + i ≡ suc (k + i) = omega arith in get-drop rows k i ∙ ap (slice_get (x ∷ rows)) (sym more)

-- the same rows are charged the same
pub load_same : (xs ys : List Row) → SameRows xs ys → load_of xs ≡ load_of ys
load_same [] [] s = refl
load_same [] (y ∷ ys) s = absurd s
load_same (x ∷ xs) [] s = absurd s
load_same (x ∷ xs) (y ∷ ys) s =
    let same : row_charge x ≡ row_charge y = cc (s.0, s.1) in
    omega (arith, load_of-cons x xs, load_of-cons y ys, same, load_same xs ys s.2)

-- rows behind others add their charges
pub appended_load : (old new others : List Row) → Appends old new others → load_of new ≡ load_of old + load_of others
appended_load old new others a = ap load_of a.rows ∙ omega (arith, sum_by-append row_charge old a.moved, load_same others a.moved a.same)

-- a page with rows behind its own is in order where their keys rise and they suit it
pub appended_order : (head : PageHead) (old new others : List Row) → Appends old new others → AllByRecursion (IsRowOf head) old → AllByRecursion (IsRowOf head) others → RowsAscend (old ++ others) → load_of old + load_of others ≤ PAGE_ROOM → IsNeighbour head.prev → IsNeighbour head.next → IsPageInOrder (record { head = head; rows = new })
appended_order head old new others a each each' ascend fits prev next =
    let is = sym a.rows in
    record {
      ascend = subst RowsAscend is (ascends_same (old ++ others) (old ++ a.moved) (same_behind old others a.moved a.same) ascend);
      places = a.differ;
      each = subst (AllByRecursion (IsRowOf head)) is (each_append (IsRowOf head) old a.moved each (suits_same head others a.moved a.same each'));
      fits = omega (arith, appended_load old new others a, fits);
      prev = prev;
      next = next;
    }

-- there are no more rows than their load
pub rows_within_load : (rows : List Row) → length rows ≤ load_of rows
rows_within_load [] = omega arith
rows_within_load (x ∷ rows) = omega (arith, rows_within_load rows, load_of-cons x rows, some_charge x.key x.body)
