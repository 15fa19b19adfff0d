-- Bytes that are equal one after another.
use Rattle.std.proofs.Common.{◌≡◌, ℕ, zero, suc, true, ◌==◌, ◌+◌, ◌<◌, ◌≤◌, List, [], ◌∷◌, length, drop, get_or, subst, arith}
use Rattle.std.proofs.lemmas.Bool.Decides.{nat_tests}
use Rattle.key_tuple.specs.Figures.{equal_bytes}
use Rattle.page_search.proofs.ByteLemmas.{same_byte}

-- a byte that both have is one more that is equal
pub byte_more : (xs ys : List ℕ) (n next : ℕ) → next ≡ suc n → n < length xs → n < length ys → get_or xs n 0 ≡ get_or ys n 0 → equal_bytes (drop n xs) (drop n ys) ≡ equal_bytes (drop next xs) (drop next ys) + 1
byte_more xs ys n next e a b same = rw e (go xs ys n a b same)
  where
    go : (xs ys : List ℕ) (n : ℕ) → n < length xs → n < length ys → get_or xs n 0 ≡ get_or ys n 0 → equal_bytes (drop n xs) (drop n ys) ≡ equal_bytes (drop (suc n) xs) (drop (suc n) ys) + 1
    go [] ys n a b same = absurd (omega arith)
    go (x ∷ xs) [] n a b same = absurd (omega arith)
    go (x ∷ xs) (y ∷ ys) zero a b same = subst (λ (z : ℕ). equal_bytes (x ∷ xs) (z ∷ ys) ≡ equal_bytes xs ys + 1) same (same_byte x xs ys)
    go (x ∷ xs) (y ∷ ys) (suc n) a b same = go xs ys n (omega arith) (omega arith) same

-- four bytes from a place on
pub four_equal : (xs ys : List ℕ) (at : ℕ) → at + 4 ≤ length xs → at + 4 ≤ length ys → get_or xs at 0 ≡ get_or ys at 0 → get_or xs (at + 1) 0 ≡ get_or ys (at + 1) 0 → get_or xs (at + 2) 0 ≡ get_or ys (at + 2) 0 → (get_or xs (at + 3) 0 == get_or ys (at + 3) 0) ≡ true → 4 ≤ equal_bytes (drop at xs) (drop at ys)
four_equal xs ys at a b first second third fourth =
    let one = byte_more xs ys at (at + 1) (omega arith) (omega arith) (omega arith) first in
    let two = byte_more xs ys (at + 1) (at + 2) (omega arith) (omega arith) (omega arith) second in
    let three = byte_more xs ys (at + 2) (at + 3) (omega arith) (omega arith) (omega arith) third in
    let four = byte_more xs ys (at + 3) (at + 4) (omega arith) (omega arith) (omega arith) (equal _ _ fourth) in
    omega (arith, one, two, three, four)
  where
    equal : (m n : ℕ) → (m == n) ≡ true → m ≡ n
    equal m n e = grind (arith, nat_tests)
