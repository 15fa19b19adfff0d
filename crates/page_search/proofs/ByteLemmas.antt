-- How far bytes agree, and how they stand to one another behind that.
use Rattle.std.proofs.Common.{◌≡◌, ℕ, zero, suc, true, false, ◌+◌, ◌<◌, ◌≤◌, List, [], ◌∷◌, length, drop, get_or, refl, sym, ap, subst, ◌∙◌, arith, ◌⊎◌, inl, inr, Ordering, Less, Equal, Greater, nat_eq}
use Rattle.std.proofs.lemmas.Bool.{cases_eq, cases_lt}
use Rattle.std.proofs.lemmas.Bool.Decides.{nat_tests}
use Rattle.std.specs.Ordering.{nat_cmp, ordering_then}
use Rattle.std.specs.Cmp.Lexicographic.{slice_cmp}
use Rattle.key_tuple.specs.Figures.{equal_bytes}

-- a first byte that both have, and first bytes that differ
pub same_byte : (x : ℕ) (xs ys : List ℕ) → equal_bytes (x ∷ xs) (x ∷ ys) ≡ equal_bytes xs ys + 1
same_byte x xs ys = let e : nat_eq x x ≡ true = grind (arith, nat_tests) in rw e refl

pub other_byte : (x y : ℕ) (xs ys : List ℕ) → (x ≡ y → ⊥) → equal_bytes (x ∷ xs) (y ∷ ys) ≡ 0
other_byte x y xs ys other = let e : nat_eq x y ≡ false = grind (arith, nat_tests) in rw e refl

pub nat_same : (x y : ℕ) → nat_cmp x y ≡ Equal → x ≡ y
nat_same x y e = grind (arith, nat_tests)

nat_itself : (x : ℕ) → nat_cmp x x ≡ Equal
nat_itself x = grind (arith, nat_tests)

nat_turned : (x y : ℕ) → nat_cmp x y ≡ Less → nat_cmp y x ≡ Greater
nat_turned x y e = grind (arith, nat_tests)

pub cmp_same : (x : ℕ) (xs ys : List ℕ) → slice_cmp nat_cmp (x ∷ xs) (x ∷ ys) ≡ slice_cmp nat_cmp xs ys
cmp_same x xs ys = ap (λ (o : Ordering). ordering_then o (slice_cmp nat_cmp xs ys)) (nat_itself x)

pub bytes_itself : (xs : List ℕ) → slice_cmp nat_cmp xs xs ≡ Equal
bytes_itself [] = refl
bytes_itself (x ∷ xs) = cmp_same x xs xs ∙ bytes_itself xs

-- no more bytes are equal than there are
pub equal_within : (xs ys : List ℕ) → equal_bytes xs ys ≤ length xs
equal_within [] ys = omega arith
equal_within (x ∷ xs) [] = omega arith
equal_within (x ∷ xs) (y ∷ ys) = elim (cases_eq x y) [
  | inl same ↦ subst (λ (k : ℕ). equal_bytes (x ∷ xs) (k ∷ ys) ≤ length (x ∷ xs)) same (omega (arith, same_byte x xs ys, equal_within xs ys))
  | inr other ↦ omega (arith, other_byte x y xs ys other)
]

pub equal_itself : (xs : List ℕ) → equal_bytes xs xs ≡ length xs
equal_itself [] = refl
equal_itself (x ∷ xs) = omega (arith, same_byte x xs xs, equal_itself xs)

-- the bytes agree as far, or they stand so to the others
abbrev pub BytesOr : Ordering → List ℕ → List ℕ → List ℕ → Type 0
BytesOr side t a c = (equal_bytes t a ≤ equal_bytes t c) ⊎ (slice_cmp nat_cmp t c ≡ side)

more_bytes : (side : Ordering) (x : ℕ) (xs ys zs : List ℕ) → BytesOr side xs ys zs → BytesOr side (x ∷ xs) (x ∷ ys) (x ∷ zs)
more_bytes side x xs ys zs (inl p) = inl (omega (arith, p, same_byte x xs ys, same_byte x xs zs))
more_bytes side x xs ys zs (inr p) = inr (cmp_same x xs zs ∙ p)

-- bytes above others agree with a third as far as those do, or are above it
low_step : (x : ℕ) (xs ys : List ℕ) (z : ℕ) (zs : List ℕ) (o : Ordering) → nat_cmp x z ≡ o → ordering_then o (slice_cmp nat_cmp ys zs) ≡ Less
    → (slice_cmp nat_cmp ys zs ≡ Less → BytesOr Less xs ys zs) → BytesOr Less (x ∷ xs) (x ∷ ys) (z ∷ zs)
low_step x xs ys z zs Less q f more = inr (ap (λ (o : Ordering). ordering_then o (slice_cmp nat_cmp xs zs)) q)
low_step x xs ys z zs Equal q f more = subst (λ (k : ℕ). BytesOr Less (x ∷ xs) (x ∷ ys) (k ∷ zs)) (nat_same x z q) (more_bytes Less x xs ys zs (more f))
low_step x xs ys z zs Greater q f more = absurd cc

pub low_bytes : (t a c : List ℕ) → slice_cmp nat_cmp a c ≡ Less → BytesOr Less t a c
low_bytes [] a c e = inl (omega arith)
low_bytes (x ∷ xs) [] c e = inl (omega arith)
low_bytes (x ∷ xs) (y ∷ ys) [] e = absurd cc
low_bytes (x ∷ xs) (y ∷ ys) (z ∷ zs) e = elim (cases_eq x y) [
  | inl same ↦
      subst (λ (k : ℕ). BytesOr Less (x ∷ xs) (k ∷ ys) (z ∷ zs)) same
      (low_step x xs ys z zs (nat_cmp x z) refl (subst (λ (k : ℕ). slice_cmp nat_cmp (k ∷ ys) (z ∷ zs) ≡ Less) (sym same) e) (low_bytes xs ys zs))
  | inr other ↦ inl (omega (arith, other_byte x y xs ys other))
]

-- and those below
up_step : (x : ℕ) (xs ys : List ℕ) (z : ℕ) (zs : List ℕ) (o : Ordering) → nat_cmp z x ≡ o → ordering_then o (slice_cmp nat_cmp zs ys) ≡ Less
    → (slice_cmp nat_cmp zs ys ≡ Less → BytesOr Greater xs ys zs) → BytesOr Greater (x ∷ xs) (x ∷ ys) (z ∷ zs)
up_step x xs ys z zs Less q f more = inr (ap (λ (o : Ordering). ordering_then o (slice_cmp nat_cmp xs zs)) (nat_turned z x q))
up_step x xs ys z zs Equal q f more = subst (λ (k : ℕ). BytesOr Greater (x ∷ xs) (x ∷ ys) (k ∷ zs)) (sym (nat_same z x q)) (more_bytes Greater x xs ys zs (more f))
up_step x xs ys z zs Greater q f more = absurd cc

pub up_bytes : (t a c : List ℕ) → slice_cmp nat_cmp c a ≡ Less → BytesOr Greater t a c
up_bytes [] a c e = inl (omega arith)
up_bytes (x ∷ xs) [] c e = inl (omega arith)
up_bytes (x ∷ xs) (y ∷ ys) [] e = inr refl
up_bytes (x ∷ xs) (y ∷ ys) (z ∷ zs) e = elim (cases_eq x y) [
  | inl same ↦
      subst (λ (k : ℕ). BytesOr Greater (x ∷ xs) (k ∷ ys) (z ∷ zs)) same
      (up_step x xs ys z zs (nat_cmp z x) refl (subst (λ (k : ℕ). slice_cmp nat_cmp (z ∷ zs) (k ∷ ys) ≡ Less) (sym same) e) (up_bytes xs ys zs))
  | inr other ↦ inl (omega (arith, other_byte x y xs ys other))
]

pub bytes_exact : (xs ys : List ℕ) → slice_cmp nat_cmp xs ys ≡ Equal → xs ≡ ys
bytes_exact [] [] e = refl
bytes_exact [] (y ∷ ys) e = absurd cc
bytes_exact (x ∷ xs) [] e = absurd cc
bytes_exact (x ∷ xs) (y ∷ ys) e = go (nat_cmp x y) refl e (bytes_exact xs ys)
  where
    go : (o : Ordering) → nat_cmp x y ≡ o → ordering_then o (slice_cmp nat_cmp xs ys) ≡ Equal → (slice_cmp nat_cmp xs ys ≡ Equal → xs ≡ ys) → x ∷ xs ≡ y ∷ ys
    go Less q f more = absurd cc
    go Equal q f more = cc (more f, nat_same x y q)
    go Greater q f more = absurd cc

-- what follows from the first of two orderings, where both together are less
pub first_less : (o r : Ordering) → ordering_then o r ≡ Less → (o ≡ Less) ⊎ ((o ≡ Equal) × (r ≡ Less))
first_less Less r e = inl refl
first_less Equal r e = inr (refl, e)
first_less Greater r e = absurd cc

-- others are greater where these are less
turned_step : (x y : ℕ) (xs ys : List ℕ) → (nat_cmp y x ≡ Less) ⊎ ((nat_cmp y x ≡ Equal) × (slice_cmp nat_cmp ys xs ≡ Less))
    → (slice_cmp nat_cmp ys xs ≡ Less → slice_cmp nat_cmp xs ys ≡ Greater) → slice_cmp nat_cmp (x ∷ xs) (y ∷ ys) ≡ Greater
turned_step x y xs ys (inl less) more = ap (λ (o : Ordering). ordering_then o (slice_cmp nat_cmp xs ys)) (nat_turned y x less)
turned_step x y xs ys (inr tied) more = subst (λ (k : ℕ). slice_cmp nat_cmp (x ∷ xs) (k ∷ ys) ≡ Greater) (sym (nat_same y x tied.0)) (cmp_same x xs ys ∙ more tied.1)

pub turned : (xs ys : List ℕ) → slice_cmp nat_cmp ys xs ≡ Less → slice_cmp nat_cmp xs ys ≡ Greater
turned [] [] e = absurd cc
turned [] (y ∷ ys) e = absurd cc
turned (x ∷ xs) [] e = refl
turned (x ∷ xs) (y ∷ ys) e = turned_step x y xs ys (first_less (nat_cmp y x) (slice_cmp nat_cmp ys xs) e) (turned xs ys)

pub none_equal : (xs : List ℕ) → equal_bytes xs [] ≡ 0
none_equal [] = refl
none_equal (x ∷ xs) = refl

-- some first bytes that are equal, and those behind them
pub skip_bytes : (xs ys : List ℕ) (n : ℕ) → n ≤ equal_bytes xs ys → equal_bytes xs ys ≡ n + equal_bytes (drop n xs) (drop n ys)
skip_bytes xs ys zero h = omega arith
skip_bytes [] ys (suc n) h = absurd (omega arith)
skip_bytes (x ∷ xs) [] (suc n) h = absurd (omega arith)
skip_bytes (x ∷ xs) (y ∷ ys) (suc n) h = elim (cases_eq x y) [
  | inl same ↦
      subst (λ (k : ℕ). equal_bytes (x ∷ xs) (k ∷ ys) ≡ suc n + equal_bytes (drop n xs) (drop n ys)) same
      (let few : suc n ≤ equal_bytes (x ∷ xs) (x ∷ ys) = subst (λ (k : ℕ). suc n ≤ equal_bytes (x ∷ xs) (k ∷ ys)) (sym same) h in
      omega (arith, same_byte x xs ys, skip_bytes xs ys n (omega (arith, few, same_byte x xs ys))))
  | inr other ↦ absurd (omega (arith, h, other_byte x y xs ys other))
]

-- a byte that differs ends what is equal
none_more : (xs ys : List ℕ) (n : ℕ) → n < length xs → n < length ys → (get_or xs n 0 ≡ get_or ys n 0 → ⊥) → equal_bytes (drop n xs) (drop n ys) ≡ 0
none_more [] ys n a b other = absurd (omega arith)
none_more (x ∷ xs) [] n a b other = absurd (omega arith)
none_more (x ∷ xs) (y ∷ ys) zero a b other = other_byte x y xs ys other
none_more (x ∷ xs) (y ∷ ys) (suc n) a b other = none_more xs ys n (omega arith) (omega arith) other

pub ends_here : (xs ys : List ℕ) (n : ℕ) → n < length xs → n < length ys → (get_or xs n 0 ≡ get_or ys n 0 → ⊥) → equal_bytes xs ys ≡ n + equal_bytes (drop n xs) (drop n ys) → n ≡ equal_bytes xs ys
ends_here xs ys n a b other so_far = omega (arith, so_far, none_more xs ys n a b other)

-- no more bytes are equal than there are on either side
pub equal_below : (xs ys : List ℕ) → equal_bytes xs ys ≤ length ys
equal_below [] ys = omega arith
equal_below (x ∷ xs) [] = omega arith
equal_below (x ∷ xs) (y ∷ ys) = elim (cases_eq x y) [
  | inl same ↦ subst (λ (k : ℕ). equal_bytes (x ∷ xs) (k ∷ ys) ≤ length (k ∷ ys)) same (omega (arith, same_byte x xs ys, equal_below xs ys))
  | inr other ↦ omega (arith, other_byte x y xs ys other)
]

pub stays_first : (x y : ℕ) (o : Ordering) → (x ≡ y → ⊥) → nat_cmp x y ≡ ordering_then (nat_cmp x y) o
stays_first x y o other = go (nat_cmp x y) refl
  where
    go : (p : Ordering) → nat_cmp x y ≡ p → p ≡ ordering_then p o
    go Less q = refl
    go Equal q = absurd (other (nat_same x y q))
    go Greater q = refl

-- the first bytes that differ decide
pub behind_within : (xs ys : List ℕ) (n : ℕ) → n ≡ equal_bytes xs ys → n < length xs → n < length ys → nat_cmp (get_or xs n 0) (get_or ys n 0) ≡ slice_cmp nat_cmp xs ys
behind_within [] ys n is a b = absurd (omega arith)
behind_within (x ∷ xs) [] n is a b = absurd (omega arith)
behind_within (x ∷ xs) (y ∷ ys) zero is a b = stays_first x y (slice_cmp nat_cmp xs ys) (λ same.
    let e : zero ≡ equal_bytes (x ∷ xs) (x ∷ ys) = subst (λ (k : ℕ). zero ≡ equal_bytes (x ∷ xs) (k ∷ ys)) (sym same) is in
    omega (arith, e, same_byte x xs ys))
behind_within (x ∷ xs) (y ∷ ys) (suc n) is a b = elim (cases_eq x y) [
  | inl same ↦
      let e : suc n ≡ equal_bytes (x ∷ xs) (x ∷ ys) = subst (λ (k : ℕ). suc n ≡ equal_bytes (x ∷ xs) (k ∷ ys)) (sym same) is in
      subst (λ (k : ℕ). nat_cmp (get_or xs n 0) (get_or ys n 0) ≡ slice_cmp nat_cmp (x ∷ xs) (k ∷ ys)) same
      (behind_within xs ys n (omega (arith, e, same_byte x xs ys)) (omega arith) (omega arith) ∙ sym (cmp_same x xs ys))
  | inr other ↦ absurd (omega (arith, is, other_byte x y xs ys other))
]

-- and where one side has no more, the lengths do
pub behind_end : (xs ys : List ℕ) (n : ℕ) → n ≡ equal_bytes xs ys → (n < length xs → n < length ys → ⊥) → nat_cmp (length xs) (length ys) ≡ slice_cmp nat_cmp xs ys
behind_end [] [] n is end = grind (arith, nat_tests)
behind_end [] (y ∷ ys) n is end = grind (arith, nat_tests)
behind_end (x ∷ xs) [] n is end = grind (arith, nat_tests)
behind_end (x ∷ xs) (y ∷ ys) zero is end = absurd (end (omega arith) (omega arith))
behind_end (x ∷ xs) (y ∷ ys) (suc n) is end = elim (cases_eq x y) [
  | inl same ↦
      let e : suc n ≡ equal_bytes (x ∷ xs) (x ∷ ys) = subst (λ (k : ℕ). suc n ≡ equal_bytes (x ∷ xs) (k ∷ ys)) (sym same) is in
      subst (λ (k : ℕ). nat_cmp (suc (length xs)) (suc (length ys)) ≡ slice_cmp nat_cmp (x ∷ xs) (k ∷ ys)) same
      (longer (length xs) (length ys) ∙ behind_end xs ys n (omega (arith, e, same_byte x xs ys)) (λ a b. end (omega (arith, a)) (omega (arith, b))) ∙ sym (cmp_same x xs ys))
  | inr other ↦ absurd (omega (arith, is, other_byte x y xs ys other))
]
  where
    longer : (a b : ℕ) → nat_cmp (suc a) (suc b) ≡ nat_cmp a b
    longer a b = elim (cases_lt a b) [
      | inl less ↦ grind (arith, nat_tests)
      | inr more ↦ grind (arith, nat_tests)
    ]
