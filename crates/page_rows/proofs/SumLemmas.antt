-- Sums and counts over the records of a page.
use Rattle.std.proofs.Common.{◌≡◌, ℕ, ◌+◌, ◌*◌, ◌≤◌, List, [], ◌∷◌, ◌++◌, map, length, nat_eq, count_by, sum_by, cond, refl, subst, arith, inl, inr}
use Rattle.std.proofs.lemmas.List.Sums.{sum_by-append, sum_by-cons}
use Rattle.std.proofs.lemmas.Bool.{cases_eq}
use Rattle.std.proofs.lemmas.Bool.Decides.{nat_tests}
use Rattle.std.specs.List.{AllByRecursion}
use Rattle.compact_record.specs.declared.kind.RecordKind.{RecordKind}
use Rattle.compact_record.specs.declared.kind.RecordKind.TheVariants as kinds
use Rattle.compact_record.specs.Record.{PlacedRecord}
use Rattle.index_page.specs.Rows.{Row}
use Rattle.index_page.specs.Loads.{charge_of, load_of}
use Rattle.page_rows.specs.Reading.{row_of_record, body_of_kind}
use Rattle.page_rows.specs.Spelling.{size_of_record, PageParts}
use Rattle.page_rows.proofs.SpellingLemmas.{row_of}

-- a sum is the same where each summand is
pub same_sums : (f g : ℕ → ℕ) (xs : List ℕ) → AllByRecursion (λ x. f x ≡ g x) xs → sum_by f xs ≡ sum_by g xs
same_sums f g [] a = refl
same_sums f g (x ∷ xs) a = omega (arith, sum_by-cons f x xs, sum_by-cons g x xs, a.0, same_sums f g xs a.1)

-- one summand in the midst of others, or before them
pub sum_moved : (f : ℕ → ℕ) (x : ℕ) (xs ys : List ℕ) → sum_by f (xs ++ x ∷ ys) ≡ f x + sum_by f (xs ++ ys)
sum_moved f x xs ys = omega (arith, sum_by-append f xs (x ∷ ys), sum_by-append f xs ys, sum_by-cons f x ys)

-- what is counted is there
pub counted_there : (P : ℕ → Type 0) (k : ℕ) (xs : List ℕ) → 1 ≤ count_by (λ x. nat_eq x k) xs → AllByRecursion P xs → P k
counted_there P k [] some a = absurd (omega arith)
counted_there P k (x ∷ xs) some a = elim (cases_eq x k) [
  | inl is ↦ subst P is a.0
  | inr other ↦
      let f : ℕ → ℕ = λ i. cond (nat_eq i k) 1 0 in
      let split = sum_by-cons f x xs in
      let none : f x ≡ 0 = grind (arith, nat_tests, other) in
      counted_there P k xs (omega arith) a.1
]

-- a number is counted where it is
pub counts_itself : (k : ℕ) (xs : List ℕ) → 1 ≤ count_by (λ x. nat_eq x k) (k ∷ xs)
counts_itself k xs =
    let f : ℕ → ℕ = λ i. cond (nat_eq i k) 1 0 in
    let split = sum_by-cons f k xs in
    let one : f k ≡ 1 = grind (arith, nat_tests) in
    omega arith

pub counts_more : (k x : ℕ) (xs : List ℕ) → count_by (λ i. nat_eq i k) xs ≤ count_by (λ i. nat_eq i k) (x ∷ xs)
counts_more k x xs = omega (arith, sum_by-cons (λ (i : ℕ). cond (nat_eq i k) 1 0) x xs)

-- the charge of a record's row is its size and one byte
charge_is : (kind : RecordKind) (start number : ℕ) (key : List (List ℕ)) (tail : List ℕ)
    → charge_of key (body_of_kind kind tail) ≡ size_of_record (record { start = start; kind = kind; heap_number = number; key = key; tail = tail }) + 1
charge_is kinds.Row start number key tail = refl
charge_is kinds.Pointer start number key tail = refl
charge_is kinds.LeftmostPointer start number key tail = refl

pub charge_of_record : (place : ℕ) (r : PlacedRecord) → charge_of (row_of_record place r).key (row_of_record place r).body ≡ size_of_record r + 1
charge_of_record place r = charge_is r.kind r.start r.heap_number r.key r.tail

-- the load is the sum of the sizes, and one byte for each
pub load_is : (p : PageParts) (hs : List ℕ) → load_of (map (row_of p) hs) ≡ sum_by (λ h. size_of_record (p.of h)) hs + length hs
load_is p [] = refl
load_is p (h ∷ hs) =
    omega (
      arith,
      load_is p hs,
      charge_of_record (p.mirror.next h) (p.of h),
      sum_by-cons (λ (x : Row). charge_of x.key x.body) (row_of p h) (map (row_of p) hs),
      sum_by-cons (λ h. size_of_record (p.of h)) h hs,
    )

-- a record has five bytes at least
size_low : (kind : RecordKind) (start number : ℕ) (key : List (List ℕ)) (tail : List ℕ)
    → 5 ≤ size_of_record (record { start = start; kind = kind; heap_number = number; key = key; tail = tail })
size_low kinds.Row start number key tail = omega arith
size_low kinds.Pointer start number key tail = omega arith
size_low kinds.LeftmostPointer start number key tail = omega arith

pub size_of_some : (r : PlacedRecord) → 5 ≤ size_of_record r
size_of_some r = size_low r.kind r.start r.heap_number r.key r.tail

pub sizes_low : (of : ℕ → PlacedRecord) (hs : List ℕ) → 5 * length hs ≤ sum_by (λ h. size_of_record (of h)) hs
sizes_low of [] = omega arith
sizes_low of (h ∷ hs) = omega (arith, sizes_low of hs, size_of_some (of h), sum_by-cons (λ h. size_of_record (of h)) h hs)
