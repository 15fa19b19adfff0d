-- Fields with another last one, and with empty ones behind them.
use Rattle.std.proofs.Common.{◌≡◌, ℕ, zero, suc, ◌+◌, ◌<◌, ◌≤◌, List, [], ◌∷◌, ◌++◌, length, replicate, get_or, refl, ap, arith}
use Rattle.std.proofs.lemmas.List.Sums.{sum_by-append, sum_by-cons}
use Rattle.key_tuple.specs.Order.{FieldList, byte_count}
use Rattle.map_ranges.specs.Bounds.{last_field, with_last}

pub length-with_last : (fields : FieldList) (last : List ℕ) → length (with_last fields last) ≡ length fields
length-with_last [] last = refl
length-with_last (field ∷ []) last = refl
length-with_last (field ∷ next ∷ fields) last = ap suc (length-with_last (next ∷ fields) last)

-- the last field, and those before it
pub with_last-last : (fields : FieldList) (last : List ℕ) (i : ℕ) → i + 1 ≡ length fields
    → get_or (with_last fields last) i [] ≡ last
with_last-last [] last i at = absurd (omega (arith, at))
with_last-last (field ∷ []) last zero at = refl
with_last-last (field ∷ []) last (suc i) at = absurd (omega (arith, at))
with_last-last (field ∷ next ∷ fields) last zero at = absurd (omega (arith, at))
with_last-last (field ∷ next ∷ fields) last (suc i) at =
    with_last-last (next ∷ fields) last i (omega (arith, at))

pub with_last-other : (fields : FieldList) (last : List ℕ) (i : ℕ) → i + 1 < length fields
    → get_or (with_last fields last) i [] ≡ get_or fields i []
with_last-other [] last i at = absurd (omega (arith, at))
with_last-other (field ∷ []) last i at = absurd (omega (arith, at))
with_last-other (field ∷ next ∷ fields) last zero at = refl
with_last-other (field ∷ next ∷ fields) last (suc i) at =
    with_last-other (next ∷ fields) last i (omega (arith, at))

pub last_field-is : (fields : FieldList) (i : ℕ) → i + 1 ≡ length fields
    → get_or fields i [] ≡ last_field fields
last_field-is [] i at = absurd (omega (arith, at))
last_field-is (field ∷ []) zero at = refl
last_field-is (field ∷ []) (suc i) at = absurd (omega (arith, at))
last_field-is (field ∷ next ∷ fields) zero at = absurd (omega (arith, at))
last_field-is (field ∷ next ∷ fields) (suc i) at = last_field-is (next ∷ fields) i (omega (arith, at))

-- how many bytes there are
pub byte_count-with_last : (fields : FieldList) (last : List ℕ) → 0 < length fields
    → byte_count (with_last fields last) + length (last_field fields) ≡ byte_count fields + length last
byte_count-with_last [] last some = absurd (omega (arith, some))
byte_count-with_last (field ∷ []) last some = omega arith
byte_count-with_last (field ∷ next ∷ fields) last some =
    let rest = byte_count-with_last (next ∷ fields) last (omega arith) in
    let old = sum_by-cons length field (next ∷ fields) in
    let new = sum_by-cons length field (with_last (next ∷ fields) last) in
    omega (arith, rest, old, new)

pub byte_count-empty : (count : ℕ) → byte_count (replicate count []) ≡ 0
byte_count-empty zero = refl
byte_count-empty (suc count) = byte_count-empty count

pub byte_count-padded : (fields : FieldList) (count : ℕ)
    → byte_count (fields ++ replicate count []) ≡ byte_count fields
byte_count-padded fields count =
    let both = sum_by-append length fields (replicate count []) in
    omega (arith, both, byte_count-empty count)

-- the fields, and those behind them
pub padded-own : (fields : FieldList) (count i : ℕ) → i < length fields
    → get_or (fields ++ replicate count []) i [] ≡ get_or fields i []
padded-own [] count i below = absurd (omega (arith, below))
padded-own (field ∷ fields) count zero below = refl
padded-own (field ∷ fields) count (suc i) below = padded-own fields count i (omega (arith, below))

pub padded-behind : (fields : FieldList) (count i : ℕ) → length fields ≤ i
    → get_or (fields ++ replicate count []) i [] ≡ []
padded-behind [] zero i past = refl
padded-behind [] (suc count) zero past = refl
padded-behind [] (suc count) (suc i) past = padded-behind [] count i (omega arith)
padded-behind (field ∷ fields) count zero past = absurd (omega (arith, past))
padded-behind (field ∷ fields) count (suc i) past = padded-behind fields count i (omega (arith, past))
