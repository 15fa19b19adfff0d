-- Cuts of rows near half of their load.
use Rattle.std.proofs.Common.{◌≡◌, ℕ, zero, suc, ◌+◌, ◌-◌, ◌*◌, ◌<◌, ◌≤◌, Some, List, [], ◌∷◌, length, take, drop, refl, ap, arith, below_more}
use Rattle.std.proofs.lemmas.List.Sums.{sum_by-take-drop}
use Rattle.std.proofs.Math.Seq.{take-length}
use Rattle.std.specs.List.{AllByRecursion, slice_get}
use Rattle.key_tuple.specs.Order.{FieldList}
use Rattle.index_page.specs.Rows.{RowBody, Bytes, Child, Row}
use Rattle.index_page.specs.Loads.{charge_of, load_of, larger_part, HalvesRows}
use Rattle.index_page.specs.LoadLaws.{AreNearHalf}
use Rattle.list_facts.proofs.Each.{each_get}
use Rattle.index_page.proofs.LoadLemmas.{row_charge, load_of-cons, load_of-more}

-- each record is charged something
pub some_charge : (key : FieldList) (body : RowBody) → 0 < charge_of key body
some_charge key (Bytes value) = omega arith
some_charge key (Child number) = omega arith

pub load_of-parts : (rows : List Row) (k : ℕ) → load_of (take k rows) + load_of (drop k rows) ≡ load_of rows
load_of-parts rows k = sum_by-take-drop row_charge rows k

-- a cut before all rows, or after them, leaves the whole load
pub none_left : (rows : List Row) → larger_part rows 0 ≡ load_of rows
none_left rows = omega (arith, load_of-parts rows 0)

pub none_right : (rows : List Row) → larger_part rows (length rows) ≡ load_of rows
none_right rows =
    let all : load_of (take (length rows) rows) ≡ load_of rows = ap load_of (take-length rows) in
    omega (arith, load_of-parts rows (length rows))

-- and after the first of two rows less than that
pub first_less : (rows : List Row) → 1 < length rows → larger_part rows 1 < load_of rows
first_less [] h = absurd (omega arith)
first_less (x ∷ []) h = absurd (omega arith)
first_less (x ∷ y ∷ rows) h = omega (arith, load_of-cons x (y ∷ rows), load_of-cons y rows, load_of-cons x [], some_charge x.key x.body, some_charge y.key y.body)

-- a cut whose larger part is least leaves a row before it
above_none : (rows : List Row) (k : ℕ) → 1 < length rows → larger_part rows k ≤ larger_part rows 1 → 0 < k
above_none rows zero two least = absurd (omega (arith, first_less rows two, none_left rows))
above_none rows (suc k) two least = omega arith

-- and the first such cut leaves a row after it
below_all : (rows : List Row) (k d : ℕ) → 1 < length rows → k + d ≡ length rows → (1 < k → larger_part rows k < larger_part rows 1) → k < length rows
below_all rows k zero two e first =
    let all : k ≡ length rows = omega arith in
    absurd (omega (arith, ap (larger_part rows) all, none_right rows, first_less rows two, first (omega arith)))
below_all rows k (suc d) two e first = omega arith

pub halves : (rows : List Row) (k : ℕ) → 1 < length rows → k ≤ length rows → ((j : ℕ) → j < length rows + 1 → larger_part rows k ≤ larger_part rows j) → ((j : ℕ) → j < k → larger_part rows k < larger_part rows j) → HalvesRows rows k
halves rows k two within least first = record {
  some_left = above_none rows k two (least 1 (omega arith));
  some_right = below_all rows k (length rows - k) two (omega arith) (first 1);
  least = λ j h. least j (omega arith);
  first = first;
}

-- the first of the cuts up to a number whose larger part is least
pub record IsBest (rows : List Row) (i cut : ℕ) : Type 0 where
  pub least : (j : ℕ) → j < i + 1 → larger_part rows cut ≤ larger_part rows j
  pub first : (j : ℕ) → j < cut → larger_part rows cut < larger_part rows j

pub best_new : (rows : List Row) (i cut : ℕ) → IsBest rows i cut → larger_part rows (i + 1) < larger_part rows cut → IsBest rows (i + 1) (i + 1)
best_new rows i cut best less = record {
  least = below_more (λ j. larger_part rows (i + 1) ≤ larger_part rows j) (i + 1) (λ j h. omega (arith, best.least j h, less)) (omega arith);
  first = λ j h. omega (arith, best.least j h, less);
}

pub best_old : (rows : List Row) (i cut : ℕ) → IsBest rows i cut → larger_part rows cut ≤ larger_part rows (i + 1) → IsBest rows (i + 1) cut
best_old rows i cut best more = record {
  least = below_more (λ j. larger_part rows cut ≤ larger_part rows j) (i + 1) best.least more;
  first = best.first;
}

got : (rows : List Row) (i : ℕ) → i < length rows → (x : Row) × (slice_get rows i ≡ Some x)
got [] i h = absurd (omega arith)
got (x ∷ rows) zero h = (x, refl)
got (x ∷ rows) (suc i) h = got rows i (omega arith)

-- neither part is above half of the load and of the largest charge together
pub near_half : (rows : List Row) (k most : ℕ) → HalvesRows rows k → AllByRecursion (λ (x : Row). row_charge x ≤ most) rows → AreNearHalf rows k most
near_half rows zero most h each = absurd (omega (arith, h.some_left))
near_half rows (suc m) most h each = record { left = left; right = right }
  where
    left : 2 * load_of (take (suc m) rows) ≤ load_of rows + most
    left =
        let x = got rows m (omega (arith, h.some_right)) in
        let more = load_of-more rows m x.0 x.1 in
        let small = each_get (λ (y : Row). row_charge y ≤ most) rows m x.0 each x.1 in
        let least = h.least m (omega (arith, h.some_right)) in
        omega (arith, more, small, least, some_charge x.0.key x.0.body, load_of-parts rows m, load_of-parts rows (suc m))

    right : 2 * load_of (drop (suc m) rows) ≤ load_of rows + most
    right =
        let x = got rows (suc m) h.some_right in
        let more = load_of-more rows (suc m) x.0 x.1 in
        let small = each_get (λ (y : Row). row_charge y ≤ most) rows (suc m) x.0 each x.1 in
        let least = h.least (suc (suc m)) (omega (arith, h.some_right)) in
        omega (arith, more, small, least, some_charge x.0.key x.0.body, load_of-parts rows (suc m), load_of-parts rows (suc (suc m)))
