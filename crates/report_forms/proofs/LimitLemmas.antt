-- The tests of limits say what the types say.
use Rattle.std.proofs.Common.{◌≡◌, ℕ, zero, suc, ◌<◌, ◌≤◌, Bool, true, ◌&&◌, ◌==◌, ltb, leb, List, [], ◌∷◌, length, refl, ap, arith, eq-eqb}
use Rattle.std.proofs.lemmas.Bool.Decides.{nat_tests}
use Rattle.std.proofs.lemmas.List.Sums.{sum_by-cons}
use Rattle.std.specs.List.{list_all, AllByRecursion}
use Rattle.key_tuple.specs.Order.{FieldList, byte_count}
use Rattle.key_tuple.specs.declared.TheConstants.{MAX_KEY_BYTES, MAX_VALUE_BYTES}
use Rattle.map_history.specs.Map.{MapChange, Put, Set, Del}
use Rattle.map_history.specs.Bytes.{AreBytes, IsValue}
use Rattle.audit_law.specs.Verdicts.{IsKey, ChangesRow}
use Rattle.line_forms.proofs.AnewLemmas.{both_true}
use Rattle.report_forms.specs.Limits.{are_bytes, is_key, is_value, changes_row}

-- tests and types
pub all_of : {A : Type 0} (P : A → Type 0) (t : A → Bool) → ((x : A) → t x ≡ true → P x) → (xs : List A) → list_all t xs ≡ true → AllByRecursion P xs
all_of P t h [] e = tt
all_of P t h (x ∷ xs) e = let b = both_true (t x) (list_all t xs) e in (h x b.0, all_of P t h xs b.1)

pub of_all : {A : Type 0} (P : A → Type 0) (t : A → Bool) → ((x : A) → P x → t x ≡ true) → (xs : List A) → AllByRecursion P xs → list_all t xs ≡ true
of_all P t h [] all = refl
of_all P t h (x ∷ xs) all = rw (h x all.0) (of_all P t h xs all.1)

pub below : (a b : ℕ) → ltb a b ≡ true → a < b
below a b e = grind (arith, nat_tests)

pub is_below : (a b : ℕ) → a < b → ltb a b ≡ true
is_below a b l = grind (arith, nat_tests)

pub upto : (a b : ℕ) → leb a b ≡ true → a ≤ b
upto a b e = grind (arith, nat_tests)

pub is_upto : (a b : ℕ) → a ≤ b → leb a b ≡ true
is_upto a b l = grind (arith, nat_tests)

pub same : (a b : ℕ) → (a == b) ≡ true → a ≡ b
same a b e = grind (arith, nat_tests)

bytes_are : (bs : List ℕ) → are_bytes bs ≡ true → AreBytes bs
bytes_are bs e = all_of (λ (b : ℕ). b < 256) (λ (b : ℕ). ltb b 256) (λ b t. below b 256 t) bs e

bytes_pass : (bs : List ℕ) → AreBytes bs → are_bytes bs ≡ true
bytes_pass bs all = of_all (λ (b : ℕ). b < 256) (λ (b : ℕ). ltb b 256) (λ b l. is_below b 256 l) bs all

pub key_is : (count : ℕ) (k : FieldList) → is_key count k ≡ true → IsKey count k
key_is count k e =
    let a = both_true ((length k == count) && list_all are_bytes k) (leb (byte_count k) MAX_KEY_BYTES) e in
    let b = both_true (length k == count) (list_all are_bytes k) a.0 in
    record { count = same (length k) count b.0; bytes = all_of AreBytes are_bytes bytes_are k b.1; short = upto (byte_count k) MAX_KEY_BYTES a.1 }

pub key_passes : (count : ℕ) (k : FieldList) → IsKey count k → is_key count k ≡ true
key_passes count k h = rw (eq-eqb (length k) count h.count, of_all AreBytes are_bytes bytes_pass k h.bytes) (is_upto (byte_count k) MAX_KEY_BYTES h.short)

pub value_is : (v : List ℕ) → is_value v ≡ true → IsValue v
value_is v e = let a = both_true (are_bytes v) (leb (length v) MAX_VALUE_BYTES) e in record { bytes = bytes_are v a.0; short = upto (length v) MAX_VALUE_BYTES a.1 }

pub value_passes : (v : List ℕ) → IsValue v → is_value v ≡ true
value_passes v h = rw (bytes_pass v h.bytes) (is_upto (length v) MAX_VALUE_BYTES h.short)

pub change_is : (count : ℕ) (c : MapChange) → changes_row count c ≡ true → ChangesRow count c
change_is count (Put k v) e = let a = both_true (is_key count k) (is_value v) e in (key_is count k a.0, value_is v a.1)
change_is count (Set k v) e = let a = both_true (is_key count k) (is_value v) e in (key_is count k a.0, value_is v a.1)
change_is count (Del k) e = key_is count k e

pub change_passes : (count : ℕ) (c : MapChange) → ChangesRow count c → changes_row count c ≡ true
change_passes count (Put k v) h = rw (key_passes count k h.0) (value_passes v h.1)
change_passes count (Set k v) h = rw (key_passes count k h.0) (value_passes v h.1)
change_passes count (Del k) h = key_passes count k h

-- some key
pub empty_key : ℕ → FieldList
empty_key zero = []
empty_key (suc n) = [] ∷ empty_key n

pub empty_is : (n : ℕ) → (length (empty_key n) ≡ n) × (AllByRecursion AreBytes (empty_key n) × (byte_count (empty_key n) ≡ 0))
unfolding empty_key
empty_is zero = (refl, (tt, refl))
empty_is (suc n) =
    let h = empty_is n in
    let none : byte_count ([] ∷ empty_key n) ≡ 0 = omega (arith, sum_by-cons (λ (f : List ℕ). length f) [] (empty_key n), h.1.1) in
    (ap suc h.0, ((tt, h.1.0), none))
