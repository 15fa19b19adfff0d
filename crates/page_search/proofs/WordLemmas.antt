-- What the numbers in words tell of the bytes.
use Rattle.std.proofs.Common.{◌≡◌, ℕ, zero, suc, ◌+◌, ◌*◌, ◌/◌, ◌^◌, ◌<◌, ◌≤◌, List, [], ◌∷◌, length, drop, slice_index, bit_xor, refl, sym, ap, ap₂, subst, ◌∙◌, arith, ◌⊎◌, inl, inr, Equal, nat_lt, pow-suc, pow-add, pow_pos, pow_mono, mul-le-mul_right, add-mul, get_or-drop, length-drop}
use Rattle.std.proofs.lemmas.Bool.{cases_eq, cases_lt}
use Rattle.std.proofs.lemmas.Bool.Decides.{nat_tests}
use Rattle.std.proofs.lemmas.Nat.{leading_top}
use Rattle.std.specs.Int.Bits.{xor_self, xor_zero_l, xor_zero_r, xor_assoc, xor_block, xor_lt}
use Rattle.std.specs.Int.{w64, leading_zeros}
use Rattle.std.specs.Ordering.{nat_cmp, is_lt}
use Rattle.std.specs.Cmp.Lexicographic.{slice_cmp}
use Rattle.byteorder.specs.Endian.{big_number}
use Rattle.byteorder.specs.Numbers.{big_from-cons, big_from-lt}
use Rattle.key_tuple.specs.Figures.{equal_bytes}
use Rattle.page_search.proofs.ByteLemmas.{same_byte, other_byte, cmp_same, nat_same, stays_first, skip_bytes, equal_within, behind_end, bytes_exact}

-- each is a byte
abbrev pub AreBytes : List ℕ → Type 0
AreBytes xs = (i : ℕ) → slice_index xs i < 256

bytes_power : (n : ℕ) → 256 ^ n ≡ 2 ^ (8 * n)
bytes_power zero = refl
bytes_power (suc n) =
    let eight : 8 * suc n ≡ 8 * n + 8 = omega arith in
    pow-suc 256 n ∙ ap (λ (x : ℕ). x * 256) (bytes_power n) ∙ sym (ap (λ (x : ℕ). 2 ^ x) eight ∙ pow-add 2 (8 * n) 8)

-- the number of more bytes, and how great it is
number_front : (n x : ℕ) (xs : List ℕ) → big_number (suc n) (x ∷ xs) ≡ x * 2 ^ (8 * n) + big_number n xs
number_front n x xs = ap₂ (λ (p r : ℕ). x * p + r) (bytes_power n) (big_from-cons 0 n x xs)

number_below : (n : ℕ) (xs : List ℕ) → AreBytes xs → big_number n xs < 2 ^ (8 * n)
number_below n xs bytes = subst (λ (p : ℕ). big_number n xs < p) (bytes_power n) (big_from-lt 0 n xs bytes)

front_less : (a b p x y : ℕ) → a < b → x < p → a * p + x < b * p + y
front_less a b p x y less fits =
    let top : (a + 1) * p ≤ b * p = mul-le-mul_right p (omega arith) in
    omega (arith, top, add-mul a 1 p)

front_order : (a b p x y : ℕ) → (a ≡ b → ⊥) → x < p → y < p → nat_cmp (a * p + x) (b * p + y) ≡ nat_cmp a b
front_order a b p x y other fits fits' = elim (cases_lt a b) [
  | inl less ↦ let first = front_less a b p x y less fits in grind (arith, nat_tests)
  | inr more ↦ let first = front_less b a p y x (omega arith) fits' in grind (arith, nat_tests)
]

behind_order : (q x y : ℕ) → nat_cmp (q + x) (q + y) ≡ nat_cmp x y
behind_order q x y = elim (cases_lt x y) [
  | inl less ↦ grind (arith, nat_tests)
  | inr more ↦ grind (arith, nat_tests)
]

xor_none : (a b : ℕ) → bit_xor a b ≡ 0 → a ≡ b
xor_none a b none =
    sym (xor_zero_r a) ∙ ap (λ (x : ℕ). bit_xor a x) (sym (xor_self b)) ∙ sym (xor_assoc a b b) ∙ ap (λ (x : ℕ). bit_xor x b) none ∙ xor_zero_l b

-- numbers of so many first bytes that differ: what differs begins in the byte that does
pub record WordsApart (n : ℕ) (xs ys : List ℕ) : Type 0 where
  pub rest : ℕ
  pub place : equal_bytes xs ys + suc rest ≡ n
  pub order : nat_cmp (big_number n xs) (big_number n ys) ≡ slice_cmp nat_cmp xs ys
  pub other : slice_cmp nat_cmp xs ys ≡ Equal → ⊥
  pub low : 2 ^ (8 * rest) ≤ bit_xor (big_number n xs) (big_number n ys)
  pub high : bit_xor (big_number n xs) (big_number n ys) < 2 ^ (8 * rest + 8)

-- the numbers are the same, and so are the bytes, or both differ
abbrev pub WordsTell : ℕ → List ℕ → List ℕ → Type 0
WordsTell n xs ys = ((big_number n xs ≡ big_number n ys) × (n ≤ equal_bytes xs ys)) ⊎ WordsApart n xs ys

xor_front : (n x y : ℕ) (xs ys : List ℕ) → AreBytes xs → AreBytes ys
    → bit_xor (big_number (suc n) (x ∷ xs)) (big_number (suc n) (y ∷ ys)) ≡ bit_xor x y * 2 ^ (8 * n) + bit_xor (big_number n xs) (big_number n ys)
xor_front n x y xs ys p q =
    ap₂ (λ (a b : ℕ). bit_xor a b) (number_front n x xs) (number_front n y ys)
    ∙ xor_block (8 * n) x y (big_number n xs) (big_number n ys) (number_below n xs p) (number_below n ys q)

same_front : (n x : ℕ) (xs ys : List ℕ) → AreBytes xs → AreBytes ys → WordsTell n xs ys → WordsTell (suc n) (x ∷ xs) (x ∷ ys)
same_front n x xs ys p q (inl told) =
    inl (number_front n x xs ∙ ap (λ (r : ℕ). x * 2 ^ (8 * n) + r) told.0 ∙ sym (number_front n x ys), omega (arith, told.1, same_byte x xs ys))
same_front n x xs ys p q (inr a) =
    let same = xor_front n x x xs ys p q ∙ ap (λ (z : ℕ). z * 2 ^ (8 * n) + bit_xor (big_number n xs) (big_number n ys)) (xor_self x) in
    inr (record {
      rest = a.rest;
      place = omega (arith, a.place, same_byte x xs ys);
      order = ap₂ nat_cmp (number_front n x xs) (number_front n x ys) ∙ behind_order (x * 2 ^ (8 * n)) (big_number n xs) (big_number n ys) ∙ a.order ∙ sym (cmp_same x xs ys);
      other = λ e. a.other (sym (cmp_same x xs ys) ∙ e);
      low = omega (arith, same, a.low);
      high = omega (arith, same, a.high);
    })

other_front : (n x y : ℕ) (xs ys : List ℕ) → (x ≡ y → ⊥) → AreBytes (x ∷ xs) → AreBytes (y ∷ ys) → WordsApart (suc n) (x ∷ xs) (y ∷ ys)
other_front n x y xs ys other p q =
    let p' : AreBytes xs = λ i. p (suc i) in
    let q' : AreBytes ys = λ i. q (suc i) in
    let first = stays_first x y (slice_cmp nat_cmp xs ys) other in
    let eight : 8 * suc n ≡ 8 * n + 8 = omega arith in
    let some : 1 * 2 ^ (8 * n) ≤ bit_xor x y * 2 ^ (8 * n) = mul-le-mul_right (2 ^ (8 * n)) (some_bit x y other) in
    record {
      rest = n;
      place = omega (arith, other_byte x y xs ys other);
      order = ap₂ nat_cmp (number_front n x xs) (number_front n y ys)
          ∙ front_order x y (2 ^ (8 * n)) (big_number n xs) (big_number n ys) other (number_below n xs p') (number_below n ys q') ∙ first;
      other = λ e. other (nat_same x y (first ∙ e));
      low = omega (arith, xor_front n x y xs ys p' q', some);
      high = xor_lt (8 * n + 8) _ _ (subst (λ (k : ℕ). big_number (suc n) (x ∷ xs) < 2 ^ k) eight (number_below (suc n) (x ∷ xs) p)) (subst (λ (k : ℕ). big_number (suc n) (y ∷ ys) < 2 ^ k) eight (number_below (suc n) (y ∷ ys) q));
    }
  where
    some_bit : (a b : ℕ) → (a ≡ b → ⊥) → 1 ≤ bit_xor a b
    some_bit a b apart = elim (cases_lt 0 (bit_xor a b)) [
      | inl more ↦ omega (arith, more)
      | inr none ↦ absurd (apart (xor_none a b (omega (arith, none))))
    ]

pub words_tell : (n : ℕ) (xs ys : List ℕ) → n ≤ length xs → n ≤ length ys → AreBytes xs → AreBytes ys → WordsTell n xs ys
words_tell zero xs ys a b p q = inl (refl, omega arith)
words_tell (suc n) [] ys a b p q = absurd (omega arith)
words_tell (suc n) (x ∷ xs) [] a b p q = absurd (omega arith)
words_tell (suc n) (x ∷ xs) (y ∷ ys) a b p q = elim (cases_eq x y) [
  | inl same ↦
      subst (λ (k : ℕ). WordsTell (suc n) (x ∷ xs) (k ∷ ys)) same
      (same_front n x xs ys (λ i. p (suc i)) (λ i. q (suc i)) (words_tell n xs ys (omega arith) (omega arith) (λ i. p (suc i)) (λ i. q (suc i))))
  | inr other ↦ inr (other_front n x y xs ys other p q)
]

-- the zeros before what differs tell the byte
power_below : (i j : ℕ) → 2 ^ i < 2 ^ j → i < j
power_below i j h = elim (cases_lt i j) [
  | inl less ↦ less
  | inr more ↦ let other : 2 ^ j ≤ 2 ^ i = pow_mono more in absurd (omega (arith, other, h))
]

zeros_tell : (rest v : ℕ) → rest < 8 → 2 ^ (8 * rest) ≤ v → v < 2 ^ (8 * rest + 8) → leading_zeros w64 v / 8 + rest ≡ 7
zeros_tell rest v few low high =
    let most : 2 ^ (8 * rest + 8) ≤ 2 ^ 64 = pow_mono {i = 8 * rest + 8} {j = 64} (omega arith) in
    let top = leading_top 64 v (omega (arith, low, pow_pos (8 * rest))) (omega (arith, high, most)) in
    let above = power_below (8 * rest) (suc top.0) (omega (arith, low, top.3)) in
    let below = power_below top.0 (8 * rest + 8) (omega (arith, high, top.2)) in
    omega (arith, top.1, above, below)

-- the order of bytes is that of those behind some that are equal
skip_order : (xs ys : List ℕ) (n : ℕ) → n ≤ equal_bytes xs ys → slice_cmp nat_cmp (drop n xs) (drop n ys) ≡ slice_cmp nat_cmp xs ys
skip_order xs ys zero h = refl
skip_order [] ys (suc n) h = absurd (omega arith)
skip_order (x ∷ xs) [] (suc n) h = absurd (omega arith)
skip_order (x ∷ xs) (y ∷ ys) (suc n) h = elim (cases_eq x y) [
  | inl same ↦
      subst (λ (k : ℕ). slice_cmp nat_cmp (drop (suc n) (x ∷ xs)) (drop (suc n) (k ∷ ys)) ≡ slice_cmp nat_cmp (x ∷ xs) (k ∷ ys)) same
      (let few : suc n ≤ equal_bytes (x ∷ xs) (x ∷ ys) = subst (λ (k : ℕ). suc n ≤ equal_bytes (x ∷ xs) (k ∷ ys)) (sym same) h in
      skip_order xs ys n (omega (arith, few, same_byte x xs ys)) ∙ sym (cmp_same x xs ys))
  | inr other ↦ absurd (omega (arith, h, other_byte x y xs ys other))
]

drop_bytes : (xs : List ℕ) (n : ℕ) → AreBytes xs → AreBytes (drop n xs)
drop_bytes xs n bytes = λ i. subst (λ (x : ℕ). x < 256) (sym (get_or-drop n xs i 0)) (bytes (n + i))

-- what the words from a place on tell
pub told_at : (xs ys : List ℕ) (n : ℕ) → AreBytes xs → AreBytes ys → n + 8 ≤ length xs → n + 8 ≤ length ys → WordsTell 8 (drop n xs) (drop n ys)
told_at xs ys n p q a b =
    words_tell 8 (drop n xs) (drop n ys) (omega (arith, length-drop n xs)) (omega (arith, length-drop n ys)) (drop_bytes xs n p) (drop_bytes ys n q)

pub same_at : (xs ys : List ℕ) (n : ℕ) → n ≤ equal_bytes xs ys → WordsTell 8 (drop n xs) (drop n ys) → big_number 8 (drop n xs) ≡ big_number 8 (drop n ys) → n + 8 ≤ equal_bytes xs ys
same_at xs ys n so_far (inl told) same = omega (arith, skip_bytes xs ys n so_far, told.1)
same_at xs ys n so_far (inr a) same = absurd (a.other (sym a.order ∙ tied (big_number 8 (drop n xs)) (big_number 8 (drop n ys)) same))
  where
    tied : (a b : ℕ) → a ≡ b → nat_cmp a b ≡ Equal
    tied a b e = grind (arith, nat_tests)

less_told : (a b : ℕ) → nat_lt a b ≡ is_lt (nat_cmp a b)
less_told a b = elim (cases_lt a b) [
  | inl less ↦ grind (arith, nat_tests)
  | inr more ↦ grind (arith, nat_tests)
]

pub apart_at : (xs ys : List ℕ) (n : ℕ) → n ≤ equal_bytes xs ys → WordsTell 8 (drop n xs) (drop n ys) → (big_number 8 (drop n xs) ≡ big_number 8 (drop n ys) → ⊥)
    → (nat_lt (big_number 8 (drop n xs)) (big_number 8 (drop n ys)) ≡ is_lt (slice_cmp nat_cmp xs ys))
    × (n + leading_zeros w64 (bit_xor (big_number 8 (drop n xs)) (big_number 8 (drop n ys))) / 8 ≡ equal_bytes xs ys) × (slice_cmp nat_cmp xs ys ≡ Equal → ⊥)
apart_at xs ys n so_far (inl told) other = absurd (other told.0)
apart_at xs ys n so_far (inr a) other =
    let order = a.order ∙ skip_order xs ys n so_far in
    let place = a.place in (
      less_told (big_number 8 (drop n xs)) (big_number 8 (drop n ys)) ∙ ap is_lt order,
      omega (arith, skip_bytes xs ys n so_far, place, zeros_tell a.rest (bit_xor (big_number 8 (drop n xs)) (big_number 8 (drop n ys))) (omega (arith, place)) a.low a.high),
      λ e. a.other (skip_order xs ys n so_far ∙ e),
    )

-- bytes that are equal as far as both go
pub all_same : (xs ys : List ℕ) → length xs ≤ equal_bytes xs ys → length xs ≡ length ys → xs ≡ ys
all_same xs ys all long =
    let end : length xs ≡ equal_bytes xs ys = omega (arith, all, equal_within xs ys) in
    let tied : nat_cmp (length xs) (length ys) ≡ Equal = grind (arith, nat_tests) in
    bytes_exact xs ys (sym (behind_end xs ys (length xs) end (λ a b. omega (arith, a))) ∙ tied)
