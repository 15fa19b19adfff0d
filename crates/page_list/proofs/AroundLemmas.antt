-- The group around a record that leaves, and what is left of it.
use Rattle.std.proofs.Common.{◌≡◌, ℕ, ◌+◌, ◌<◌, ◌≤◌, List, [], ◌∷◌, ◌++◌, length, nat_eq, count_by, slice_index, refl, sym, ap, subst, ◌∙◌, arith, length-append, ◌⊎◌, inl, inr}
use Rattle.std.proofs.lemmas.List.{append_assoc, append-nil}
use Rattle.std.specs.List.{AllByRecursion}
use Rattle.list_facts.proofs.Each.{each_left, each_right, each_append}
use Rattle.page_mirror.specs.Mirror.{Mirror}
use Rattle.page_directory.specs.Groups.{Group, records, owners, IsOwned}
use Rattle.page_directory.specs.Sizes.{group_sizes}
use Rattle.page_directory.proofs.ListLemmas.{counted_apart}
use Rattle.page_directory.proofs.OwnerLemmas.{owner_named, count_sizes, size_at, slots_counted}
use Rattle.page_list.specs.Leaving.{Between, CanLeave, GroupAround}
use Rattle.page_list.proofs.GroupOfLemmas.{group_of, first_or_second}
use Rattle.page_list.proofs.EnterLemmas.{records_cut}
use Rattle.page_list.proofs.SlotSizeLemmas.{not_first, rest_from}

pub group_around : {bytes : List ℕ} {m : Mirror} {gs : List Group} {free : List ℕ} {b : Between} {at : ℕ} → CanLeave bytes m gs free b at → GroupAround gs b
group_around {gs = gs} {b = b} c = group_of gs (b.low ++ b.p ∷ []) b.here (b.n ∷ b.high) c.list

-- the last of two lists in a row, the second of which isn't empty
pub last_of_second : (zs : List ℕ) (p : ℕ) (xs ys : List ℕ) → zs ++ p ∷ [] ≡ xs ++ ys → 1 ≤ length ys → (front : List ℕ) × (ys ≡ front ++ p ∷ [])
last_of_second zs p xs ys e some = elim (first_or_second xs ys zs p [] (sym e)) [
  | inl a ↦ absurd (omega (arith, ap length a.2, length-append a.0 ys))
  | inr b ↦ (b.0, b.2)
]

-- the records of the group behind this one, and those behind them
pub record GroupRest (gs : List Group) (b : Between) (w : GroupAround gs b) : Type 0 where
  pub behind : List ℕ
  pub rest_is : w.rest ++ w.owner ∷ [] ≡ b.here ∷ behind
  pub after_is : b.n ∷ b.high ≡ behind ++ records w.late

pub group_rest : (gs : List Group) (b : Between) (w : GroupAround gs b) → GroupRest gs b w
group_rest gs b w =
    let from = rest_from w.rest w.owner (records w.late) b.here (b.n ∷ b.high) w.second in
    let all : b.here ∷ b.n ∷ b.high ≡ b.here ∷ (from.0 ++ records w.late) =
    w.second ∙ sym (append_assoc w.rest (w.owner ∷ []) (records w.late)) ∙ ap (λ (xs : List ℕ). xs ++ records w.late) from.1 in
    record { behind = from.0; rest_is = from.1; after_is = cc }

-- the records up to this one, and from it on, group by group
pub list_around : (gs : List Group) (b : Between) (w : GroupAround gs b) → records gs ≡ (records w.early ++ w.low) ++ (w.rest ++ w.owner ∷ records w.late)
list_around gs b w = ap records w.groups ∙ records_cut w.early w.low w.rest w.owner w.late

-- there are groups behind where there are records behind
not_last : (late : List Group) (n : ℕ) (high : List ℕ) → n ∷ high ≡ records late → 1 ≤ length late
not_last [] n high e = absurd (omega (arith, ap length e))
not_last (g ∷ late) n high e = omega arith

two_there : (low rest : List ℕ) (r n : ℕ) (high : List ℕ) (o : ℕ) (late : List Group) → r ∷ n ∷ high ≡ rest ++ o ∷ records late
    → (1 ≤ length late → 4 ≤ length (low ++ rest) + 1) → 2 ≤ length (low ++ rest) + 1
two_there low [] r n high o late e many =
    let tail : n ∷ high ≡ records late = cc in
    let four = many (not_last late n high tail) in
    omega arith
two_there low (x ∷ rest) r n high o late e many = omega (arith, length-append low (x ∷ rest))

-- what is known of the group
pub record OfGroup (m : Mirror) (gs : List Group) (b : Between) (w : GroupAround gs b) : Type 0 where
  pub behind : 1 ≤ length w.early
  pub two : 2 ≤ length (w.low ++ w.rest) + 1
  pub few : length (w.low ++ w.rest) + 1 ≤ 8
  pub many : 1 ≤ length w.late → 4 ≤ length (w.low ++ w.rest) + 1
  pub owns : m.owned w.owner ≡ length (w.low ++ w.rest) + 1
  pub owner_is : slice_index m.slots (length w.early) ≡ w.owner
  pub zeros : AllByRecursion (λ k. m.owned k ≡ 0) (w.low ++ w.rest)

pub of_group : {bytes : List ℕ} {m : Mirror} {gs : List Group} {free : List ℕ} {b : Between} {at : ℕ} (w : GroupAround gs b) → CanLeave bytes m gs free b at → OfGroup m gs b w
of_group {bytes} {m} {gs} {free} {b} w c =
    let s = length w.early in
    let group : Group = record { front = w.low ++ w.rest; owner = w.owner } in
    let here : slice_index (group_sizes gs) s ≡ length (w.low ++ w.rest) + 1 = ap (λ (x : List Group). slice_index (group_sizes x) s) w.groups ∙ size_at w.early group w.late s refl in
    let count : length (group_sizes gs) ≡ length w.early + (length w.late + 1) = count_sizes gs ∙ ap length w.groups ∙ length-append w.early (group ∷ w.late) ∙ omega arith in
    let within : s < length (group_sizes gs) = omega arith in
    let may = c.sizes.each s within in
    let most = may.most in
    let groups : AllByRecursion (IsOwned m.owned) (w.early ++ group ∷ w.late) = rw w.groups at c.page.groups.owned in
    let mine = (each_right (IsOwned m.owned) w.early (group ∷ w.late) groups).0 in
    let behind : 1 ≤ length w.early = not_first w.early w.low b.low b.p b.here w.first (λ e. omega (arith, may.alone e, length-append w.low w.rest)) in
    let many : 1 ≤ length w.late → 4 ≤ length (w.low ++ w.rest) + 1 = λ l. omega (arith, may.least behind (omega arith)) in
    record {
      behind = behind;
      two = two_there w.low w.rest b.here b.n b.high w.owner w.late w.second many;
      few = omega arith;
      many = many;
      owns = mine.owner;
      owner_is = owner_named m.slots w.early group w.late s (c.page.groups.slots ∙ ap owners w.groups) refl;
      zeros = mine.front;
    }

-- no other record of the list or the free list is this one
pub record ApartFrom (free : List ℕ) (b : Between) : Type 0 where
  pub before : AllByRecursion (λ k. k ≡ b.here → ⊥) (b.low ++ b.p ∷ [])
  pub after : AllByRecursion (λ k. k ≡ b.here → ⊥) (b.n ∷ b.high)
  pub freed : AllByRecursion (λ k. k ≡ b.here → ⊥) free

pub apart_from : {bytes : List ℕ} {m : Mirror} {gs : List Group} {free : List ℕ} {b : Between} {at : ℕ} → CanLeave bytes m gs free b at → ApartFrom free b
apart_from {gs = gs} {free = free} {b = b} c =
    let z1 = b.low ++ b.p ∷ [] in
    let z2 = b.n ∷ b.high in
    let differ : ℕ → Type 0 = λ k. k ≡ b.here → ⊥ in
    let once : count_by (λ k. nat_eq k b.here) ((z1 ++ b.here ∷ z2) ++ free) ≤ 1 = rw c.list at (c.page.order.once b.here) in
    let shape : (z1 ++ b.here ∷ z2) ++ free ≡ z1 ++ b.here ∷ (z2 ++ free) = append_assoc z1 (b.here ∷ z2) free in
    let from = counted_apart b.here z1 (z2 ++ free) (rw (← shape) once) in
    record { before = from.0; after = each_left differ z2 free from.1; freed = each_right differ z2 free from.1 }

-- the group without the record: its owner then, and those in front of that
pub record Remains (m : Mirror) (gs : List Group) (b : Between) (w : GroupAround gs b) (r : GroupRest gs b w) : Type 0 where
  pub front : List ℕ
  pub heir : ℕ
  pub is : front ++ heir ∷ [] ≡ w.low ++ r.behind
  pub zeros : AllByRecursion (λ k. m.owned k ≡ 0) front
  pub choice : ((w.owner ≡ b.here) × (heir ≡ b.p)) ⊎ ((w.owner ≡ b.here → ⊥) × (heir ≡ w.owner))

pub remains : {bytes : List ℕ} {m : Mirror} {gs : List Group} {free : List ℕ} {b : Between} {at : ℕ} (w : GroupAround gs b) (r : GroupRest gs b w)
    → CanLeave bytes m gs free b at → Remains m gs b w r
remains {bytes} {m} {gs} {free} {b} w r c = go w.rest refl
  where
    go : (rest : List ℕ) → w.rest ≡ rest → Remains m gs b w r
    go [] e =
        let g = of_group w c in
        let alone : w.owner ∷ [] ≡ b.here ∷ r.behind = subst (λ (xs : List ℕ). xs ++ w.owner ∷ [] ≡ b.here ∷ r.behind) e r.rest_is in
        let none : r.behind ≡ [] = cc in
        let owner : w.owner ≡ b.here = cc in
        let late = not_last w.late b.n b.high (r.after_is ∙ ap (λ (xs : List ℕ). xs ++ records w.late) none) in
        let four = g.many late in
        let last = last_of_second b.low b.p (records w.early) w.low w.first (omega (arith, length-append w.low w.rest, ap length e)) in
        record {
          front = last.0;
          heir = b.p;
          is = sym last.1 ∙ sym (append-nil w.low) ∙ ap (λ (xs : List ℕ). w.low ++ xs) (sym none);
          zeros = each_left (λ k. m.owned k ≡ 0) last.0 (b.p ∷ []) (subst (AllByRecursion (λ k. m.owned k ≡ 0)) last.1 (each_left (λ k. m.owned k ≡ 0) w.low w.rest g.zeros));
          choice = inl (owner, refl);
        }
    go (x ∷ hs) e =
        let g = of_group w c in
        let shape : (x ∷ hs) ++ w.owner ∷ [] ≡ b.here ∷ r.behind = subst (λ (xs : List ℕ). xs ++ w.owner ∷ [] ≡ b.here ∷ r.behind) e r.rest_is in
        let behind : hs ++ w.owner ∷ [] ≡ r.behind = cc in
        let after = (apart_from c).after in
        let in_behind = each_left (λ k. k ≡ b.here → ⊥) r.behind (records w.late) (subst (AllByRecursion (λ k. k ≡ b.here → ⊥)) r.after_is after) in
        let zeros : AllByRecursion (λ k. m.owned k ≡ 0) (w.low ++ x ∷ hs) = subst (λ (xs : List ℕ). AllByRecursion (λ k. m.owned k ≡ 0) (w.low ++ xs)) e g.zeros in
        record {
          front = w.low ++ hs;
          heir = w.owner;
          is = append_assoc w.low hs (w.owner ∷ []) ∙ ap (λ (xs : List ℕ). w.low ++ xs) behind;
          zeros = each_append (λ k. m.owned k ≡ 0) w.low hs (each_left (λ k. m.owned k ≡ 0) w.low (x ∷ hs) zeros) (each_right (λ k. m.owned k ≡ 0) w.low (x ∷ hs) zeros).1;
          choice = inr ((each_right (λ k. k ≡ b.here → ⊥) hs (w.owner ∷ []) (subst (AllByRecursion (λ k. k ≡ b.here → ⊥)) (sym behind) in_behind)).0, refl);
        }

-- the group's slot is one of the slots
pub slots_within : {bytes : List ℕ} {m : Mirror} {gs : List Group} {free : List ℕ} {b : Between} {at : ℕ} (w : GroupAround gs b) → CanLeave bytes m gs free b at → length w.early < length m.slots
slots_within w c =
    omega (arith, slots_counted c.page.groups, ap length w.groups, length-append w.early ((let g : Group = record { front = w.low ++ w.rest; owner = w.owner } in g) ∷ w.late))
