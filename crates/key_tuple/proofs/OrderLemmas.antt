-- Comparisons and agreements of fields, one field at a time.
use Rattle.std.proofs.Common.{◌≡◌, ◌≢◌, ℕ, ◌+◌, ◌<◌, Bool, true, false, not, List, [], ◌∷◌, length, drop, get_or, refl, sym, ap, ◌∙◌, arith, drop-cons, add-one, cond, ◌-◌, min, ◌⊎◌, inl, inr, length-drop, Ordering, Less, Equal, Greater}
use Rattle.std.proofs.lemmas.Bool.{cases_lt}
use Rattle.std.proofs.lemmas.Bool.Decides.{nat_tests}
use Rattle.std.specs.Ordering.{nat_cmp, ordering_then, ordering_index}
use Rattle.std.specs.Cmp.Lexicographic.{slice_cmp, pointwise}
use Rattle.std.specs.Prelude.{nat_eq, ◌==◌}
use Rattle.key_tuple.specs.Order.{FieldList, tuple_cmp, key_cmp}
use Rattle.key_tuple.specs.Figures.{equal_fields, equal_bytes}

-- the first field that is left decides, or else those after it
pub tuple_cmp-drop : (t k : FieldList) (i : ℕ) → i < length t → i < length k → tuple_cmp (drop i t) (drop i k) ≡ ordering_then (slice_cmp nat_cmp (get_or t i []) (get_or k i [])) (tuple_cmp (drop (i + 1) t) (drop (i + 1) k))
tuple_cmp-drop t k i below_t below_k = rw (add-one i, drop-cons t i [], drop-cons k i [])

pub key_cmp-drop : (j k : FieldList) (i : ℕ) → i < length j → i < length k → key_cmp (drop i j) (drop i k) ≡ ordering_then (slice_cmp nat_cmp (get_or j i []) (get_or k i [])) (key_cmp (drop (i + 1) j) (drop (i + 1) k))
key_cmp-drop j k i below_j below_k = rw (add-one i, drop-cons j i [], drop-cons k i [])

decides : (o r : Ordering) → true ≡ not (ordering_index o == 1) → o ≡ ordering_then o r
decides Less r e = refl
decides Equal r e = absurd cc
decides Greater r e = refl

passes : (o r : Ordering) → false ≡ not (ordering_index o == 1) → ordering_then o r ≡ r
passes Less r e = absurd cc
passes Equal r e = refl
passes Greater r e = absurd cc

-- an order that goes field by field
module _ (D : FieldList → FieldList → Ordering)
    (law : (s t : FieldList) (i : ℕ) → i < length s → i < length t → D (drop i s) (drop i t) ≡ ordering_then (slice_cmp nat_cmp (get_or s i []) (get_or t i [])) (D (drop (i + 1) s) (drop (i + 1) t)))
    (s t : FieldList) (i : ℕ) (x y : List ℕ) (o : Ordering) (in_s : i < length s) (in_t : i < length t) (so_far : D s t ≡ D (drop i s) (drop i t))
    (x_is : x ≡ get_or s i []) (y_is : y ≡ get_or t i []) (o_is : o ≡ slice_cmp nat_cmp x y) where
  next_field : D s t ≡ ordering_then o (D (drop (i + 1) s) (drop (i + 1) t))
  next_field =
      let here : o ≡ slice_cmp nat_cmp (get_or s i []) (get_or t i []) = o_is ∙ (λ j. slice_cmp nat_cmp (x_is j) (y_is j)) in
      so_far ∙ law s t i in_s in_t ∙ ap (λ (p : Ordering). ordering_then p (D (drop (i + 1) s) (drop (i + 1) t))) (sym here)

  -- the first field that differs decides
  pub field_decides : true ≡ not (ordering_index o == 1) → o ≡ D s t
  field_decides differs = decides o (D (drop (i + 1) s) (drop (i + 1) t)) differs ∙ sym next_field

  -- and where they are equal, those after them do
  pub field_passes : false ≡ not (ordering_index o == 1) → D s t ≡ D (drop (i + 1) s) (drop (i + 1) t)
  field_passes same = next_field ∙ passes o (D (drop (i + 1) s) (drop (i + 1) t)) same

-- where one list is used up, the shorter comes first
used_up : {A : Type 0} (R : A → A → Ordering) (xs ys : List A) (p q n : ℕ) → length xs + n ≡ p → length ys + n ≡ q → (length xs ≡ 0) ⊎ (length ys ≡ 0) → slice_cmp R xs ys ≡ nat_cmp p q
used_up R [] [] p q n e f short = let same : p ≡ q = omega arith in grind (arith, nat_tests)
used_up R [] (y ∷ ys) p q n e f short = let less : p < q = omega arith in grind (arith, nat_tests)
used_up R (x ∷ xs) [] p q n e f short = let less : q < p = omega arith in grind (arith, nat_tests)
used_up R (x ∷ xs) (y ∷ ys) p q n e f short = absurd (elim short [ inl h ↦ omega (arith, h) | inr h ↦ omega (arith, h) ])

short_side : (n p q a b : ℕ) → n ≡ min p q → a ≡ p - n → b ≡ q - n → (a ≡ 0) ⊎ (b ≡ 0)
short_side n p q a b e f g = elim (cases_lt p q) [ inl less ↦ inl (omega arith) | inr more ↦ inr (omega arith) ]

slice_cmp-end : {A : Type 0} (R : A → A → Ordering) (j k : List A) → slice_cmp R (drop (min (length j) (length k)) j) (drop (min (length j) (length k)) k) ≡ nat_cmp (length j) (length k)
slice_cmp-end R j k =
    let n : ℕ = min (length j) (length k) in
    let left : length (drop n j) ≡ length j - n = length-drop n j in
    let right : length (drop n k) ≡ length k - n = length-drop n k in
    used_up R (drop n j) (drop n k) (length j) (length k) n (omega arith) (omega arith) (short_side n (length j) (length k) _ _ refl left right)

pub key_cmp-end : (j k : FieldList) → key_cmp (drop (min (length j) (length k)) j) (drop (min (length j) (length k)) k) ≡ nat_cmp (length j) (length k)
key_cmp-end j k = slice_cmp-end (slice_cmp nat_cmp) j k

pub byte_cmp-end : (x y : List ℕ) → slice_cmp nat_cmp (drop (min (length x) (length y)) x) (drop (min (length x) (length y)) y) ≡ nat_cmp (length x) (length y)
byte_cmp-end x y = slice_cmp-end nat_cmp x y

-- one byte more of two fields
pub byte_cmp-drop : (x y : List ℕ) (i : ℕ) → i < length x → i < length y → slice_cmp nat_cmp (drop i x) (drop i y) ≡ ordering_then (nat_cmp (get_or x i 0) (get_or y i 0)) (slice_cmp nat_cmp (drop (i + 1) x) (drop (i + 1) y))
byte_cmp-drop x y i below_x below_y = rw (add-one i, drop-cons x i 0, drop-cons y i 0)

pub bytes_decide : (a b : ℕ) (rest : Ordering) → a ≢ b → ordering_then (nat_cmp a b) rest ≡ nat_cmp a b
bytes_decide a b rest differ = grind (arith, nat_tests)

pub bytes_pass : (a b : ℕ) (rest : Ordering) → a ≡ b → ordering_then (nat_cmp a b) rest ≡ rest
bytes_pass a b rest same = grind (arith, nat_tests)

pub equal_fields-drop : (t k : FieldList) (i : ℕ) → i < length t → i < length k → equal_fields (drop i t) (drop i k) ≡ cond (pointwise nat_eq (get_or t i []) (get_or k i [])) (equal_fields (drop (i + 1) t) (drop (i + 1) k) + 1) 0
equal_fields-drop t k i below_t below_k = rw (add-one i, drop-cons t i [], drop-cons k i [])

-- one more field that is equal, and one that isn't
module _ (t k : FieldList) (i : ℕ) (x y : List ℕ) (in_t : i < length t) (in_k : i < length k) (so_far : equal_fields t k ≡ i + equal_fields (drop i t) (drop i k))
    (x_is : x ≡ get_or t i []) (y_is : y ≡ get_or k i []) where
  next_equal : (b : Bool) → b ≡ not (pointwise nat_eq x y) → equal_fields t k ≡ i + cond (not b) (equal_fields (drop (i + 1) t) (drop (i + 1) k) + 1) 0
  next_equal b e =
      let here : pointwise nat_eq (get_or t i []) (get_or k i []) ≡ not b = (λ j. pointwise nat_eq (sym x_is j) (sym y_is j)) ∙ turned (pointwise nat_eq x y) b e in
      so_far ∙ ap (λ (n : ℕ). i + n) (equal_fields-drop t k i in_t in_k ∙ ap (λ (c : Bool). cond c (equal_fields (drop (i + 1) t) (drop (i + 1) k) + 1) 0) here)
    where
      turned : (a c : Bool) → c ≡ not a → a ≡ not c
      turned true c h = ap not (sym h)
      turned false c h = ap not (sym h)

  pub fields_differ : true ≡ not (pointwise nat_eq x y) → i ≡ equal_fields t k
  fields_differ e = let h = next_equal true e in omega arith

  pub fields_agree : false ≡ not (pointwise nat_eq x y) → equal_fields t k ≡ i + 1 + equal_fields (drop (i + 1) t) (drop (i + 1) k)
  fields_agree e = let h = next_equal false e in omega arith

-- where one list is used up, no more bytes are equal
pub equal_bytes-end : (x y : List ℕ) → equal_bytes (drop (min (length x) (length y)) x) (drop (min (length x) (length y)) y) ≡ 0
equal_bytes-end x y =
    let n : ℕ = min (length x) (length y) in
    none (drop n x) (drop n y) (short_side n (length x) (length y) _ _ refl (length-drop n x) (length-drop n y))
  where
    none : (xs ys : List ℕ) → (length xs ≡ 0) ⊎ (length ys ≡ 0) → equal_bytes xs ys ≡ 0
    none [] ys h = refl
    none (a ∷ xs) [] h = refl
    none (a ∷ xs) (b ∷ ys) h = absurd (elim h [ inl e ↦ omega (arith, e) | inr e ↦ omega (arith, e) ])

-- one more byte that is equal, and one that isn't
equal_bytes-drop : (x y : List ℕ) (i : ℕ) → i < length x → i < length y → equal_bytes (drop i x) (drop i y) ≡ cond (get_or x i 0 == get_or y i 0) (equal_bytes (drop (i + 1) x) (drop (i + 1) y) + 1) 0
equal_bytes-drop x y i below_x below_y = rw (add-one i, drop-cons x i 0, drop-cons y i 0)

counts_same : (a b n : ℕ) → a ≡ b → cond (a == b) (n + 1) 0 ≡ n + 1
counts_same a b n same = grind (arith, nat_tests)

counts_none : (a b n : ℕ) → a ≢ b → cond (a == b) (n + 1) 0 ≡ 0
counts_none a b n differ = grind (arith, nat_tests)

pub bytes_agree : (x y : List ℕ) (i : ℕ) → i < length x → i < length y → equal_bytes x y ≡ i + equal_bytes (drop i x) (drop i y) → get_or x i 0 ≡ get_or y i 0 → equal_bytes x y ≡ i + 1 + equal_bytes (drop (i + 1) x) (drop (i + 1) y)
bytes_agree x y i in_x in_y so_far same =
    let rest : ℕ = equal_bytes (drop (i + 1) x) (drop (i + 1) y) in
    let next : equal_bytes (drop i x) (drop i y) ≡ rest + 1 = equal_bytes-drop x y i in_x in_y ∙ counts_same (get_or x i 0) (get_or y i 0) rest same in
    omega (arith, so_far, next)

pub bytes_differ : (x y : List ℕ) (i : ℕ) → i < length x → i < length y → equal_bytes x y ≡ i + equal_bytes (drop i x) (drop i y) → get_or x i 0 ≢ get_or y i 0 → i ≡ equal_bytes x y
bytes_differ x y i in_x in_y so_far differ =
    let rest : ℕ = equal_bytes (drop (i + 1) x) (drop (i + 1) y) in
    let next : equal_bytes (drop i x) (drop i y) ≡ 0 = equal_bytes-drop x y i in_x in_y ∙ counts_none (get_or x i 0) (get_or y i 0) rest differ in
    omega (arith, so_far, next)
