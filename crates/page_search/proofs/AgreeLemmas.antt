-- How far fields agree, as it is told by others around them.
use Rattle.std.proofs.Common.{◌≡◌, ℕ, zero, suc, ◌+◌, ◌<◌, ◌≤◌, Bool, true, false, List, [], ◌∷◌, length, drop, get_or, refl, sym, ap, ap₂, subst, ◌∙◌, not, arith, add-one, ◌⊎◌, inl, inr, Ordering, Less, Equal, Greater, nat_eq, nat_lt, cond}
use Rattle.std.proofs.lemmas.Bool.{cases_lt}
use Rattle.std.proofs.lemmas.Bool.Decides.{nat_tests}
use Rattle.std.specs.Ordering.{nat_cmp, ordering_then, ordering_index}
use Rattle.std.specs.Prelude.{◌==◌}
use Rattle.std.specs.Cmp.Lexicographic.{slice_cmp, pointwise, bytes_decides}
use Rattle.key_tuple.specs.Order.{FieldList, tuple_cmp, key_cmp}
use Rattle.key_tuple.specs.Figures.{equal_fields, equal_bytes, matching}
use Rattle.std.proofs.lemmas.List.{drop_all}
use Rattle.key_tuple.specs.declared.mode.Match.{Match}
use Rattle.key_tuple.proofs.OrderLemmas.{tuple_cmp-drop, equal_fields-drop}
use Rattle.page_search.specs.Agreeing.{AgreesTo, AgreesOr, lesser_match}
use Rattle.page_search.proofs.ByteLemmas.{bytes_itself, bytes_exact, equal_within, equal_itself, none_equal, first_less, turned, BytesOr, low_bytes, up_bytes}

-- a first field that both have, and first fields that differ
pub same_field : (x : List ℕ) (xs ys : FieldList) → equal_fields (x ∷ xs) (x ∷ ys) ≡ suc (equal_fields xs ys)
same_field x xs ys = let e : pointwise nat_eq x x ≡ true = (bytes_decides x x).1 refl in rw e (add-one (equal_fields xs ys))

pub other_field : (x y : List ℕ) (xs ys : FieldList) → pointwise nat_eq x y ≡ false → equal_fields (x ∷ xs) (y ∷ ys) ≡ 0
other_field x y xs ys e = rw e refl

more_fields : (side : Ordering) (x : List ℕ) (xs ys zs : FieldList) → AgreesOr side xs (matching xs ys) zs → AgreesOr side (x ∷ xs) (matching (x ∷ xs) (x ∷ ys)) (x ∷ zs)
more_fields side x xs ys zs (inl a) =
    let fields = a.fields in
    let bytes = a.bytes in
    inl (record { fields = rw (same_field x xs ys, same_field x xs zs) (omega arith); bytes = rw (same_field x xs ys) bytes })
more_fields side x xs ys zs (inr p) = inr (ap (λ (o : Ordering). ordering_then o (tuple_cmp xs zs)) (bytes_itself x) ∙ p)

-- the same of first fields that differ
first_bytes : (side : Ordering) (x y z : List ℕ) (xs ys zs : FieldList) → pointwise nat_eq x y ≡ false → (side ≡ Equal → ⊥) → BytesOr side x y z
    → AgreesOr side (x ∷ xs) (matching (x ∷ xs) (y ∷ ys)) (z ∷ zs)
first_bytes side x y z xs ys zs e apart (inl p) = inl (record { fields = rw e (omega arith); bytes = rw e p })
first_bytes side x y z xs ys zs e apart (inr p) = inr (ap (λ (o : Ordering). ordering_then o (tuple_cmp xs zs)) p ∙ stays side apart)
  where
    stays : (o : Ordering) → (o ≡ Equal → ⊥) → ordering_then o (tuple_cmp xs zs) ≡ o
    stays Less h = refl
    stays Equal h = absurd (h refl)
    stays Greater h = refl

-- a key above another agrees with a tuple as far as that does, or is above the tuple
pub low_fields : (t l m : FieldList) → key_cmp l m ≡ Less → AgreesOr Less t (matching t l) m
low_fields [] l m e = inl (record { fields = omega arith; bytes = omega arith })
low_fields (x ∷ xs) [] m e = inl (record { fields = omega arith; bytes = rw (none_equal x) (omega arith) })
low_fields (x ∷ xs) (y ∷ ys) [] e = absurd cc
low_fields (x ∷ xs) (y ∷ ys) (z ∷ zs) e = go (pointwise nat_eq x y) refl (first_less (slice_cmp nat_cmp y z) (key_cmp ys zs) e) (low_fields xs ys zs)
  where
    go : (b : Bool) → pointwise nat_eq x y ≡ b → (slice_cmp nat_cmp y z ≡ Less) ⊎ ((slice_cmp nat_cmp y z ≡ Equal) × (key_cmp ys zs ≡ Less))
        → (key_cmp ys zs ≡ Less → AgreesOr Less xs (matching xs ys) zs) → AgreesOr Less (x ∷ xs) (matching (x ∷ xs) (y ∷ ys)) (z ∷ zs)
    go true q (inl less) more =
        let same : x ≡ y = (bytes_decides x y).0 q in
        inr (ap (λ (o : Ordering). ordering_then o (tuple_cmp xs zs)) (subst (λ (k : List ℕ). slice_cmp nat_cmp k z ≡ Less) (sym same) less))
    go true q (inr tied) more =
        let same : x ≡ y = (bytes_decides x y).0 q in
        let last : y ≡ z = bytes_exact y z tied.0 in
        subst (λ (k : List ℕ). AgreesOr Less (x ∷ xs) (matching (x ∷ xs) (k ∷ ys)) (z ∷ zs)) same
        (subst (λ (k : List ℕ). AgreesOr Less (x ∷ xs) (matching (x ∷ xs) (x ∷ ys)) (k ∷ zs)) (same ∙ last) (more_fields Less x xs ys zs (more tied.1)))
    go false q (inl less) more = first_bytes Less x y z xs ys zs q (λ f. absurd cc) (low_bytes x y z less)
    go false q (inr tied) more = first_bytes Less x y z xs ys zs q (λ f. absurd cc) (inl (rw (bytes_exact y z tied.0) (omega arith)))

-- and a key below another, or is below the tuple
pub up_fields : (t h m : FieldList) → key_cmp m h ≡ Less → AgreesOr Greater t (matching t h) m
up_fields [] h m e = inl (record { fields = omega arith; bytes = omega arith })
up_fields (x ∷ xs) [] m e = inl (record { fields = omega arith; bytes = rw (none_equal x) (omega arith) })
up_fields (x ∷ xs) (y ∷ ys) [] e = inr refl
up_fields (x ∷ xs) (y ∷ ys) (z ∷ zs) e = go (pointwise nat_eq x y) refl (first_less (slice_cmp nat_cmp z y) (key_cmp zs ys) e) (up_fields xs ys zs)
  where
    go : (b : Bool) → pointwise nat_eq x y ≡ b → (slice_cmp nat_cmp z y ≡ Less) ⊎ ((slice_cmp nat_cmp z y ≡ Equal) × (key_cmp zs ys ≡ Less))
        → (key_cmp zs ys ≡ Less → AgreesOr Greater xs (matching xs ys) zs) → AgreesOr Greater (x ∷ xs) (matching (x ∷ xs) (y ∷ ys)) (z ∷ zs)
    go true q (inl less) more =
        let same : x ≡ y = (bytes_decides x y).0 q in
        inr (ap (λ (o : Ordering). ordering_then o (tuple_cmp xs zs)) (turned x z (subst (λ (k : List ℕ). slice_cmp nat_cmp z k ≡ Less) (sym same) less)))
    go true q (inr tied) more =
        let same : x ≡ y = (bytes_decides x y).0 q in
        let last : z ≡ y = bytes_exact z y tied.0 in
        subst (λ (k : List ℕ). AgreesOr Greater (x ∷ xs) (matching (x ∷ xs) (k ∷ ys)) (z ∷ zs)) same
        (subst (λ (k : List ℕ). AgreesOr Greater (x ∷ xs) (matching (x ∷ xs) (x ∷ ys)) (k ∷ zs)) (same ∙ sym last) (more_fields Greater x xs ys zs (more tied.1)))
    go false q (inl less) more = first_bytes Greater x y z xs ys zs q (λ f. absurd cc) (up_bytes x y z less)
    go false q (inr tied) more = first_bytes Greater x y z xs ys zs q (λ f. absurd cc) (inl (rw (bytes_exact z y tied.0) (omega arith)))

-- fields that are equal
equal_at : (t k : FieldList) (i : ℕ) → i < equal_fields t k → get_or t i [] ≡ get_or k i []
equal_at [] k i w = absurd (omega arith)
equal_at (x ∷ xs) [] i w = absurd (omega arith)
equal_at (x ∷ xs) (y ∷ ys) i w = go (pointwise nat_eq x y) refl i w (equal_at xs ys)
  where
    go : (b : Bool) → pointwise nat_eq x y ≡ b → (i : ℕ) → i < equal_fields (x ∷ xs) (y ∷ ys) → ((j : ℕ) → j < equal_fields xs ys → get_or xs j [] ≡ get_or ys j [])
        → get_or (x ∷ xs) i [] ≡ get_or (y ∷ ys) i []
    go true q zero w more = (bytes_decides x y).0 q
    go true q (suc i) w more =
        let same : x ≡ y = (bytes_decides x y).0 q in
        let within = subst (λ (k : List ℕ). suc i < equal_fields (x ∷ xs) (k ∷ ys)) (sym same) w in
        more i (omega (arith, within, same_field x xs ys))
    go false q i w more = absurd (omega (arith, w, other_field x y xs ys q))

-- the tuple's field has so many bytes
abbrev pub FitsField : FieldList → Match → Type 0
FitsField tuple f = f.bytes ≤ length (get_or tuple f.fields [])

pub matching_fits : (t k : FieldList) → FitsField t (matching t k)
matching_fits t k = equal_within _ _

fewer_fields : {t k : FieldList} (f g : Match) → AgreesTo t k f → g.fields < f.fields → FitsField t g → AgreesTo t k g
fewer_fields {t} {k} f g a less fits =
    let fields = a.fields in
    let same = equal_at t k g.fields (omega arith) in
    record {
      fields = omega arith;
      bytes = subst (λ (x : List ℕ). g.bytes ≤ equal_bytes (get_or t g.fields []) x) same (rw (equal_itself (get_or t g.fields [])) fits);
    }

fewer_bytes : {t k : FieldList} (f g : Match) → AgreesTo t k f → g.fields ≡ f.fields → g.bytes ≤ f.bytes → AgreesTo t k g
fewer_bytes {t} {k} f g a same less =
    let fields = a.fields in
    let bytes = a.bytes in
    record {
      fields = omega arith;
      bytes = rw same (omega (arith, bytes, less));
    }

-- what agrees as far as one of two agrees as far as the lesser of both
lesser_low : {t k : FieldList} (f g : Match) → AgreesTo t k f → FitsField t g → AgreesTo t k (lesser_match f g)
lesser_low f g a fits = elim (cases_lt f.fields g.fields) [
  | inl less ↦ let e : nat_lt f.fields g.fields ≡ true = grind (arith, nat_tests) in rw e a
  | inr more ↦
      let e : nat_lt f.fields g.fields ≡ false = grind (arith, nat_tests) in
      elim (cases_lt g.fields f.fields) [
        | inl less ↦ let d : nat_lt g.fields f.fields ≡ true = grind (arith, nat_tests) in rw (e, d) (fewer_fields f g a less fits)
        | inr same ↦
            let d : nat_lt g.fields f.fields ≡ false = grind (arith, nat_tests) in
            elim (cases_lt f.bytes g.bytes) [
              | inl low ↦ let b : nat_lt f.bytes g.bytes ≡ true = grind (arith, nat_tests) in rw (e, d, b) a
              | inr high ↦ let b : nat_lt f.bytes g.bytes ≡ false = grind (arith, nat_tests) in rw (e, d, b) (fewer_bytes f g a (omega arith) (omega arith))
            ]
      ]
]

lesser_up : {t k : FieldList} (f g : Match) → AgreesTo t k g → FitsField t f → AgreesTo t k (lesser_match f g)
lesser_up f g a fits = elim (cases_lt f.fields g.fields) [
  | inl less ↦ let e : nat_lt f.fields g.fields ≡ true = grind (arith, nat_tests) in rw e (fewer_fields g f a less fits)
  | inr more ↦
      let e : nat_lt f.fields g.fields ≡ false = grind (arith, nat_tests) in
      elim (cases_lt g.fields f.fields) [
        | inl less ↦ let d : nat_lt g.fields f.fields ≡ true = grind (arith, nat_tests) in rw (e, d) a
        | inr same ↦
            let d : nat_lt g.fields f.fields ≡ false = grind (arith, nat_tests) in
            elim (cases_lt f.bytes g.bytes) [
              | inl low ↦ let b : nat_lt f.bytes g.bytes ≡ true = grind (arith, nat_tests) in rw (e, d, b) (fewer_bytes g f a (omega arith) (omega arith))
              | inr high ↦ let b : nat_lt f.bytes g.bytes ≡ false = grind (arith, nat_tests) in rw (e, d, b) a
            ]
      ]
]

-- a key between two others agrees with the tuple as far as the one that agrees less
pub between_agrees : {t k : FieldList} (f g : Match) → AgreesOr Less t f k → AgreesOr Greater t g k → FitsField t f → FitsField t g → AgreesTo t k (lesser_match f g)
between_agrees f g (inl a) above fits_f fits_g = lesser_low f g a fits_g
between_agrees f g (inr less) (inl a) fits_f fits_g = lesser_up f g a fits_f
between_agrees f g (inr less) (inr greater) fits_f fits_g = absurd (let e = sym less ∙ greater in cc)

-- a key agrees with the tuple as far as it does
pub agrees_itself : (t k : FieldList) (f : Match) → FitsField t f → AgreesTo t k (lesser_match f (matching t k))
agrees_itself t k f fits = lesser_up f (matching t k) (record { fields = omega arith; bytes = omega arith }) fits

-- the fields so far are equal, so those that are left decide
pub record Upto (t k : FieldList) (i : ℕ) : Type 0 where
  pub order : tuple_cmp t k ≡ tuple_cmp (drop i t) (drop i k)
  pub fields : equal_fields t k ≡ i + equal_fields (drop i t) (drop i k)

pub begin_at : (t k : FieldList) (n : ℕ) → n ≤ equal_fields t k → Upto t k n
begin_at t k zero h = record { order = refl; fields = omega arith }
begin_at [] k (suc n) h = absurd (omega arith)
begin_at (x ∷ xs) [] (suc n) h = absurd (omega arith)
begin_at (x ∷ xs) (y ∷ ys) (suc n) h = go (pointwise nat_eq x y) refl (begin_at xs ys n)
  where
    go : (b : Bool) → pointwise nat_eq x y ≡ b → (n ≤ equal_fields xs ys → Upto xs ys n) → Upto (x ∷ xs) (y ∷ ys) (suc n)
    go true q more =
        let same : x ≡ y = (bytes_decides x y).0 q in
        let few : suc n ≤ equal_fields (x ∷ xs) (x ∷ ys) = subst (λ (z : List ℕ). suc n ≤ equal_fields (x ∷ xs) (z ∷ ys)) (sym same) h in
        let r = more (omega (arith, few, same_field x xs ys)) in
        subst (λ (z : List ℕ). Upto (x ∷ xs) (z ∷ ys) (suc n)) same (record {
          order = ap (λ (o : Ordering). ordering_then o (tuple_cmp xs ys)) (bytes_itself x) ∙ r.order;
          fields = omega (arith, same_field x xs ys, r.fields);
        })
    go false q more = absurd (omega (arith, h, other_field x y xs ys q))

-- one more field that is equal
pub next_at : {t k : FieldList} (i : ℕ) → Upto t k i → i < length t → i < length k → slice_cmp nat_cmp (get_or t i []) (get_or k i []) ≡ Equal → Upto t k (i + 1)
next_at {t} {k} i r in_t in_k tied =
    let same : pointwise nat_eq (get_or t i []) (get_or k i []) ≡ true = (bytes_decides (get_or t i []) (get_or k i [])).1 (bytes_exact (get_or t i []) (get_or k i []) tied) in
    let more : equal_fields (drop i t) (drop i k) ≡ equal_fields (drop (i + 1) t) (drop (i + 1) k) + 1 =
    equal_fields-drop t k i in_t in_k ∙ ap (λ (b : Bool). cond b (equal_fields (drop (i + 1) t) (drop (i + 1) k) + 1) 0) same in
    record {
      order = r.order ∙ tuple_cmp-drop t k i in_t in_k ∙ ap (λ (o : Ordering). ordering_then o (tuple_cmp (drop (i + 1) t) (drop (i + 1) k))) tied;
      fields = omega (arith, r.fields, more);
    }

-- the first field that differs
pub differ_at : {t k : FieldList} (i : ℕ) (o : Ordering) → Upto t k i → i < length t → i < length k → o ≡ slice_cmp nat_cmp (get_or t i []) (get_or k i []) → (o ≡ Equal → ⊥)
    → (o ≡ tuple_cmp t k) × (equal_fields t k ≡ i)
differ_at {t} {k} i o r in_t in_k is other = (
  stays o other ∙ ap (λ (p : Ordering). ordering_then p (tuple_cmp (drop (i + 1) t) (drop (i + 1) k))) is ∙ sym (r.order ∙ tuple_cmp-drop t k i in_t in_k),
  go (pointwise nat_eq (get_or t i []) (get_or k i [])) refl,
)
  where
    stays : (p : Ordering) → (p ≡ Equal → ⊥) → p ≡ ordering_then p (tuple_cmp (drop (i + 1) t) (drop (i + 1) k))
    stays Less h = refl
    stays Equal h = absurd (h refl)
    stays Greater h = refl

    go : (b : Bool) → pointwise nat_eq (get_or t i []) (get_or k i []) ≡ b → equal_fields t k ≡ i
    go true q =
        let same : get_or t i [] ≡ get_or k i [] = (bytes_decides (get_or t i []) (get_or k i [])).0 q in
        absurd (other (is ∙ subst (λ (x : List ℕ). slice_cmp nat_cmp (get_or t i []) x ≡ Equal) same (bytes_itself (get_or t i []))))
    go false q =
        let none : equal_fields (drop i t) (drop i k) ≡ 0 = equal_fields-drop t k i in_t in_k ∙ ap (λ (b : Bool). cond b (equal_fields (drop (i + 1) t) (drop (i + 1) k) + 1) 0) q in
        omega (arith, r.fields, none)

-- all fields are equal
pub all_equal : {t k : FieldList} → Upto t k (length t) → (tuple_cmp t k ≡ Equal) × (equal_fields t k ≡ length t)
all_equal {t} {k} r =
    let none : drop (length t) t ≡ [] = drop_all (length t) t (omega arith) in (
      r.order ∙ ap (λ (xs : FieldList). tuple_cmp xs (drop (length t) k)) none,
      r.fields ∙ ap (λ (xs : FieldList). length t + equal_fields xs (drop (length t) k)) none ∙ omega arith,
    )

-- the figures where the fields differ, and where they don't
pub figures_at : (t k : FieldList) (i b : ℕ) → equal_fields t k ≡ i → b ≡ equal_bytes (get_or t i []) (get_or k i []) → (let m : Match = record { fields = i; bytes = b } in m) ≡ matching t k
figures_at t k i b e is =
    ap₂ (λ (n m : ℕ). let r : Match = record { fields = n; bytes = m } in r) (sym e) (is ∙ ap (λ (n : ℕ). equal_bytes (get_or t n []) (get_or k n [])) (sym e))

pub fields_within : (t k : FieldList) → equal_fields t k ≤ length t
fields_within [] k = omega arith
fields_within (x ∷ xs) [] = omega arith
fields_within (x ∷ xs) (y ∷ ys) = go (pointwise nat_eq x y) refl (fields_within xs ys)
  where
    go : (b : Bool) → pointwise nat_eq x y ≡ b → equal_fields xs ys ≤ length xs → equal_fields (x ∷ xs) (y ∷ ys) ≤ length (x ∷ xs)
    go true q more = rw q (omega (arith, more))
    go false q more = omega (arith, other_field x y xs ys q)

past_end : (t : FieldList) → get_or t (length t) [] ≡ []
past_end [] = refl
past_end (x ∷ xs) = past_end xs

pub upto_end : {t k : FieldList} {i : ℕ} → Upto t k i → length t ≤ i → Upto t k (length t)
upto_end {t} {k} {i} r end =
    let same : i ≡ length t = omega (arith, end, r.fields, fields_within t k) in
    subst (Upto t k) same r

pub figures_end : {t k : FieldList} (n : ℕ) → Upto t k (length t) → n ≡ length t → (let m : Match = record { fields = n; bytes = 0 } in m) ≡ matching t k
figures_end {t} {k} n r is =
    figures_at t k n 0 ((all_equal r).1 ∙ sym is)
    (sym (ap (λ (x : List ℕ). equal_bytes x (get_or k n [])) (ap (λ (m : ℕ). get_or t m []) is ∙ past_end t)))

-- what the test of an ordering tells
pub not_tied : (o : Ordering) → true ≡ not (ordering_index o == 1) → o ≡ Equal → ⊥
not_tied Less e f = cc
not_tied Equal e f = cc
not_tied Greater e f = cc

pub is_tied : (o : Ordering) → false ≡ not (ordering_index o == 1) → o ≡ Equal
is_tied Less e = absurd cc
is_tied Equal e = refl
is_tied Greater e = absurd cc
