-- How one length is written.
use Rattle.std.proofs.Common.{◌≡◌, ℕ, zero, suc, ◌+◌, ◌/◌, ◌%◌, ◌<◌, ◌≤◌, List, [], ◌∷◌, length, set, arith, refl, ap, ◌∙◌, subst}
use Rattle.std.proofs.lemmas.List.{length-set, get_or-set_same, get_or-set_other}
use Rattle.std.specs.List.{slice_index}
use Rattle.std.proofs.lemmas.Bool.Decides.{nat_tests}
use Rattle.compact_record.specs.Bytes.{PutsPart}
use Rattle.compact_record.specs.Record.{length_bytes}
use Rattle.compact_record.proofs.WritingLemmas.{puts-then}

-- one byte is written
pub puts_byte : (old : List ℕ) (at x : ℕ) → at < length old → PutsPart old (set old at x) (x ∷ []) at (at + 1)
puts_byte old at x fits = record {
  end = refl;
  spells = record { each = first };
  kept = record {
    len = length-set old at x;
    below = λ k low. get_or-set_other old at k x 0 (λ e. omega arith);
    above = λ k high. get_or-set_other old at k x 0 (λ e. omega arith);
  };
}
  where
    first : (k : ℕ) → k < 1 → slice_index (set old at x) (at + k) ≡ slice_index (x ∷ []) k
    first zero low = ap (slice_index (set old at x)) (omega arith) ∙ get_or-set_same old at x 0 fits
    first (suc k) low = absurd (omega arith)

-- two bytes are written, one behind the other
pub puts_two : (old : List ℕ) (at x y : ℕ) → at + 2 ≤ length old → PutsPart old (set (set old at x) (at + 1) y) (x ∷ y ∷ []) at (at + 2)
puts_two old at x y fits =
    let first = puts_byte old at x (omega arith) in
    let second = puts_byte (set old at x) (at + 1) y (omega (arith, first.kept.len)) in
    subst (λ (to : ℕ). PutsPart old (set (set old at x) (at + 1) y) (x ∷ y ∷ []) at to) (omega arith) (puts-then first second)

-- the bytes of a length above 127, and of one that isn't
pub long_length : (n : ℕ) → 127 < n → length_bytes n ≡ n % 256 ∷ (128 + n / 256) ∷ []
long_length n above = grind (arith, nat_tests)

pub short_length : (n : ℕ) → n ≤ 127 → length_bytes n ≡ n ∷ []
short_length n within = grind (arith, nat_tests)
