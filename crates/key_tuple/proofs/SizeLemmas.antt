-- Bounds of sizes, and what a size depends on.
use Rattle.std.proofs.Common.{◌≡◌, ℕ, ◌+◌, ◌*◌, ◌≤◌, Bool, true, false, cond, List, [], ◌∷◌, length, map, take, get_or, ◌<◌, sum_by, nat_lt, refl, sym, ap, ◌∙◌, arith}
use Rattle.std.proofs.lemmas.List.Sums.{sum_by-cons, sum_by_more}
use Rattle.key_tuple.specs.Order.{FieldList, byte_count}
use Rattle.key_tuple.specs.Sizes.{length_size, field_size, row_size_of, pointer_size_of, largest_row, largest_pointer}

-- a length takes at most two bytes
pub length_size-le : (n : ℕ) → length_size n ≤ 2
length_size-le n = short (nat_lt 127 n)
  where
    short : (b : Bool) → cond b 2 1 ≤ 2
    short true = omega arith
    short false = omega arith

-- so all fields take at most two bytes each beside their own
pub sizes_le : (fields : FieldList) → sum_by field_size fields ≤ 2 * length fields + byte_count fields
sizes_le [] = omega arith
sizes_le (field ∷ fields) = omega (arith, sizes_le fields, length_size-le (length field), sum_by-cons field_size field fields, sum_by-cons length field fields)

pub row_limited : (fields : FieldList) (value : List ℕ) (most bytes room : ℕ) → length fields ≤ most → byte_count fields ≤ bytes → length value ≤ room → row_size_of fields value ≤ largest_row most bytes room
row_limited fields value most bytes room few short small = omega (arith, sizes_le fields, length_size-le (length value))

pub pointer_limited : (fields : FieldList) (most bytes : ℕ) → length fields ≤ most → byte_count fields ≤ bytes → pointer_size_of fields ≤ largest_pointer most bytes
pointer_limited fields most bytes few short = omega (arith, sizes_le fields)

-- the fields' sizes as a sum over their lengths
by_lengths : (fields : FieldList) → sum_by (λ n. length_size n + n) (map length fields) ≡ sum_by field_size fields
by_lengths [] = refl
by_lengths (field ∷ fields) = sum_by-cons (λ n. length_size n + n) (length field) (map length fields) ∙ ap (λ (n : ℕ). field_size field + n) (by_lengths fields) ∙ sym (sum_by-cons field_size field fields)

same_sizes : (s t : FieldList) → map length s ≡ map length t → sum_by field_size s ≡ sum_by field_size t
same_sizes s t e = sym (by_lengths s) ∙ ap (sum_by (λ n. length_size n + n)) e ∙ by_lengths t

pub pointer_by_lengths : (s t : FieldList) → map length s ≡ map length t → pointer_size_of s ≡ pointer_size_of t
pointer_by_lengths s t e = ap (λ (n : ℕ). 5 + n + 4) (same_sizes s t e)

pub row_by_lengths : (s t : FieldList) (u v : List ℕ) → map length s ≡ map length t → length u ≡ length v → row_size_of s u ≡ row_size_of t v
row_by_lengths s t u v e f = λ i. 5 + same_sizes s t e i + (length_size (f i) + f i)

-- the size with one field more
pub size_after : (fields : FieldList) (i size more : ℕ) → i < length fields → size ≡ sum_by field_size (take i fields) → more ≡ field_size (get_or fields i []) → size + more ≡ sum_by field_size (take (i + 1) fields)
size_after fields i size more below so_far next = omega (arith, so_far, next, sum_by_more field_size fields i [] below)
