-- The group in which a record of the list stands.
use Rattle.std.proofs.Common.{◌≡◌, ℕ, List, [], ◌∷◌, ◌++◌, length, refl, sym, ap, ◌∙◌, arith, length-append, ◌⊎◌, inl, inr}
use Rattle.std.proofs.lemmas.List.{append_assoc}
use Rattle.page_directory.specs.Groups.{Group, members, records}
use Rattle.page_list.specs.Entering.{IsGroupOf}

-- of two lists in a row, the one in which a number stands
abbrev pub InFirst : List ℕ → List ℕ → List ℕ → ℕ → List ℕ → Type 0
InFirst xs ys zs n high = (hs : List ℕ) × (xs ≡ zs ++ n ∷ hs) × (high ≡ hs ++ ys)

abbrev pub InSecond : List ℕ → List ℕ → List ℕ → ℕ → List ℕ → Type 0
InSecond xs ys zs n high = (ws : List ℕ) × (zs ≡ xs ++ ws) × (ys ≡ ws ++ n ∷ high)

pub first_or_second : (xs ys zs : List ℕ) (n : ℕ) (high : List ℕ) → xs ++ ys ≡ zs ++ n ∷ high → InFirst xs ys zs n high ⊎ InSecond xs ys zs n high
first_or_second [] ys zs n high e = inr (zs, refl, e)
first_or_second (x ∷ xs) ys [] n high e = inl (xs, cc, cc)
first_or_second (x ∷ xs) ys (z ∷ zs) n high e =
    let head : x ≡ z = cc in
    let tail : xs ++ ys ≡ zs ++ n ∷ high = cc in
    elim (first_or_second xs ys zs n high tail) [
      | inl a ↦ let same = a.1 in inl (a.0, cc, a.2)
      | inr b ↦ let same = b.1 in inr (b.0, cc, b.2)
    ]

-- the members of a group, cut where a number stands
pub front_cut : (front : List ℕ) (o : ℕ) (zs : List ℕ) (n : ℕ) (hs : List ℕ) → front ++ o ∷ [] ≡ zs ++ n ∷ hs
    → (rest : List ℕ) × (front ≡ zs ++ rest) × (rest ++ o ∷ [] ≡ n ∷ hs)
front_cut [] o [] n hs e = ([], refl, e)
front_cut (x ∷ xs) o [] n hs e = (x ∷ xs, refl, e)
front_cut [] o (z ∷ zs) n hs e = absurd (omega (arith, ap length e, length-append zs (n ∷ hs)))
front_cut (x ∷ xs) o (z ∷ zs) n hs e =
    let head : x ≡ z = cc in
    let tail : xs ++ o ∷ [] ≡ zs ++ n ∷ hs = cc in
    let r = front_cut xs o zs n hs tail in
    let same = r.1 in (r.0, cc, r.2)

pub group_of : (gs : List Group) (zs : List ℕ) (n : ℕ) (high : List ℕ) → records gs ≡ zs ++ n ∷ high → IsGroupOf gs zs n high
group_of [] zs n high e = absurd (omega (arith, ap length e, length-append zs (n ∷ high)))
group_of (g ∷ gs) zs n high e = elim (first_or_second (members g) (records gs) zs n high e) [
  | inl a ↦
      let cut = front_cut g.front g.owner zs n a.0 a.1 in
      let rest = cut.0 in
      record {
        early = [];
        low = zs;
        rest = rest;
        owner = g.owner;
        late = gs;
        groups = ap (λ (f : List ℕ). record { front = f; owner = g.owner } ∷ gs) cut.1;
        first = refl;
        second = ap (λ (x : List ℕ). n ∷ x) a.2 ∙ ap (λ (x : List ℕ). x ++ records gs) (sym cut.2) ∙ append_assoc rest (g.owner ∷ []) (records gs);
      }
  | inr b ↦
      let w = group_of gs b.0 n high b.2 in
      record {
        early = g ∷ w.early;
        low = w.low;
        rest = w.rest;
        owner = w.owner;
        late = w.late;
        groups = ap (λ (x : List Group). g ∷ x) w.groups;
        first = b.1 ∙ ap (λ (x : List ℕ). members g ++ x) w.first ∙ sym (append_assoc (members g) (records w.early) w.low);
        second = w.second;
      }
]
