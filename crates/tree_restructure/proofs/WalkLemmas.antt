-- Rows by their numbers and places.
use Rattle.std.proofs.Common.{◌≡◌, ◌≢◌, ℕ, zero, suc, ◌+◌, ◌<◌, Option, Some, None, IsSome, is_some, List, [], ◌∷◌, ◌++◌, refl, sym, ap, ◌∙◌, subst, add-one, arith, length, take, drop}
use Rattle.std.proofs.lemmas.List.{length-take-le}
use Rattle.std.specs.List.{AllByRecursion, slice_get}
use Rattle.index_page.specs.Rows.{Row, find_row, first_of_rows, IsAt}
use Rattle.index_page.specs.Page.{PlacesDiffer}
use Rattle.index_page.specs.Loads.{HalvesRows}
use Rattle.index_page.specs.Changes.{NextIs}
use Rattle.index_page.proofs.RowLemmas.{get_split, first_of_rows-drop}
use Rattle.list_facts.proofs.Each.{each_right}
use Rattle.tree_restructure.specs.Cuts.{IsHalfPlace}

-- rows are parted around the row at a place in one way
pub same_parts : (xs : List Row) (x : Row) (ys cs : List Row) (a : Row) (bs : List Row)
    → PlacesDiffer (xs ++ x ∷ ys) → xs ++ x ∷ ys ≡ cs ++ a ∷ bs → x.place ≡ a.place
    → (xs ≡ cs) × (x ≡ a) × (ys ≡ bs)
same_parts [] x ys [] a bs d e p = let one : x ≡ a = cc in let rest : ys ≡ bs = cc in
    (refl, one, rest)
same_parts [] x ys (b ∷ cs) a bs d e p = let rest : ys ≡ cs ++ a ∷ bs = cc in
    let others = subst (AllByRecursion (λ (y : Row). y.place ≢ x.place)) rest d.0 in
    absurd ((each_right (λ (y : Row). y.place ≢ x.place) cs (a ∷ bs) others).0 (sym p))
same_parts (z ∷ xs) x ys [] a bs d e p = let one : z ≡ a = cc in
    absurd ((each_right (λ (y : Row). y.place ≢ z.place) xs (x ∷ ys) d.0).0
    (p ∙ ap (λ (y : Row). y.place) (sym one)))
same_parts (z ∷ xs) x ys (b ∷ cs) a bs d e p = let one : z ≡ b = cc in
    let rest : xs ++ x ∷ ys ≡ cs ++ a ∷ bs = cc in
    let parts = same_parts xs x ys cs a bs d.1 rest p in
    ((λ i. one i ∷ parts.0 i), parts.1, parts.2)

-- a place that is that of some row has a row
pub stands : (rows : List Row) (place : ℕ) (o : Option Row) → IsAt rows (Some place) o
    → IsSome (find_row place rows)
stands rows place None a = absurd cc
stands rows place (Some row) a = let same : place ≡ row.place = cc a.0 in
    subst (λ n. IsSome (find_row n rows)) (sym same) (ap is_some a.1)

-- behind the row with a number stands the one with the next number
pub next_one : (rows : List Row) (i place : ℕ) (next : Option ℕ) → PlacesDiffer rows
    → IsAt rows (Some place) (slice_get rows i) → NextIs rows place next
    → IsAt rows next (slice_get rows (i + 1))
next_one rows i place next d at n = go (slice_get rows i) refl at
  where
    go : (o : Option Row) → slice_get rows i ≡ o → IsAt rows (Some place) o
        → IsAt rows next (slice_get rows (i + 1))
    go None e a = absurd cc
    go (Some row) e a = let split = get_split rows i row e in
        let same : place ≡ row.place = cc a.0 in
        let parts = same_parts (take i rows) row (drop (suc i) rows) n.left n.row n.right
        (subst PlacesDiffer split d) (sym split ∙ n.split) (sym same ∙ sym n.place_is) in
        rw add-one (subst (IsAt rows next)
        (ap first_of_rows (sym parts.2) ∙ first_of_rows-drop rows (suc i)) n.next_at)

none_more : (rows : List Row) (i : ℕ) → slice_get rows i ≡ None → slice_get rows (suc i) ≡ None
none_more [] i e = refl
none_more (x ∷ rows) zero e = absurd cc
none_more (x ∷ rows) (suc i) e = none_more rows i e

-- and behind none stands none
pub none_next : (rows : List Row) (i : ℕ) → IsAt rows None (slice_get rows i)
    → IsAt rows None (slice_get rows (i + 1))
none_next rows i at = go (slice_get rows i) refl at
  where
    go : (o : Option Row) → slice_get rows i ≡ o → IsAt rows None o
        → IsAt rows None (slice_get rows (i + 1))
    go None e a = rw add-one (subst (IsAt rows None) (sym (none_more rows i e)) refl)
    go (Some row) e a = absurd (cc a.0)

-- there is a row for each number below the length
pub row_below : (all rows : List Row) (i : ℕ) → i < length rows → IsAt all None (slice_get rows i)
    → ⊥
row_below all [] i h a = omega arith
row_below all (x ∷ rows) zero h a = absurd (cc a.0)
row_below all (x ∷ rows) (suc i) h a = row_below all rows i (omega arith) a

-- the row with the number of a cut
pub half_at : (rows : List Row) (k place : ℕ) → HalvesRows rows k
    → IsAt rows (Some place) (slice_get rows k) → IsHalfPlace rows place
half_at rows k place h at = go (slice_get rows k) refl at
  where
    long : length (take k rows) ≡ k
    long = length-take-le k rows (omega (arith, h.some_right))

    go : (o : Option Row) → slice_get rows k ≡ o → IsAt rows (Some place) o
        → IsHalfPlace rows place
    go None e a = absurd cc
    go (Some row) e a = let same : place ≡ row.place = cc a.0 in record {
      lower = take k rows;
      row = row;
      above = drop (suc k) rows;
      was = get_split rows k row e;
      place_is = sym same;
      there = subst (λ n. find_row n rows ≡ Some row) (sym same) a.1;
      halves = subst (HalvesRows rows) (sym long) h;
    }

-- there is a row of each number below their count
pub no_end : (all rows : List Row) (i : ℕ) → i < length rows → IsAt all None (slice_get rows i) → ⊥
no_end all [] i h a = omega arith
no_end all (x ∷ rows) zero h a = absurd (cc a.0)
no_end all (x ∷ rows) (suc i) h a = no_end all rows i (omega arith) a
