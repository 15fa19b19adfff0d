-- The way to the record before one.
use Rattle.std.proofs.Common.{◌≡◌, ℕ, ◌+◌, ◌-◌, ◌≤◌, List, [], ◌∷◌, ◌++◌, length, slice_index, sym, ap, subst, ◌∙◌, arith, length-append}
use Rattle.std.proofs.lemmas.List.{append_assoc}
use Rattle.std.proofs.lemmas.Grind.{flat_map-append}
use Rattle.std.specs.List.{AllByRecursion}
use Rattle.list_facts.proofs.Each.{each_right}
use Rattle.page_mirror.specs.Mirror.{Mirror}
use Rattle.page_directory.specs.Groups.{Group, members, records, owners, AreLinked}
use Rattle.page_directory.specs.Owners.{first_else}
use Rattle.page_directory.proofs.ListLemmas.{cut_at, none_left, linked_left, linked_right}
use Rattle.page_directory.proofs.OwnerLemmas.{owner_named}
use Rattle.page_list.specs.Leaving.{Between, CanLeave, GroupAround, LeadsToPrevious}
use Rattle.page_list.proofs.AroundLemmas.{of_group, apart_from, last_of_second}

first_is : (rest : List ℕ) (p q : ℕ) (xs : List ℕ) → rest ++ p ∷ [] ≡ q ∷ xs → first_else rest p ≡ q
first_is [] p q xs e = cc
first_is (x ∷ rest) p q xs e = cc

-- the owner of the slot before, and the records up to it
record SlotBefore (m : Mirror) (gs : List Group) (b : Between) (w : GroupAround gs b) : Type 0 where
  pub front : List ℕ
  pub owner : ℕ
  pub is : b.low ++ b.p ∷ [] ≡ front ++ (owner ∷ w.low)
  pub owner_is : slice_index m.slots (length w.early - 1) ≡ owner

slot_before : {bytes : List ℕ} {m : Mirror} {gs : List Group} {free : List ℕ} {b : Between} {at : ℕ} (w : GroupAround gs b) → CanLeave bytes m gs free b at → SlotBefore m gs b w
slot_before {m = m} {gs = gs} {b = b} w c =
    let behind = (of_group w c).behind in
    let cut = cut_at w.early (length w.early - 1) (omega arith) in
    let g = cut.here in
    let none : cut.high ≡ [] = none_left cut.high (omega (arith, ap length cut.is, length-append cut.low (g ∷ cut.high), cut.size)) in
    let early : w.early ≡ cut.low ++ g ∷ [] = cut.is ∙ ap (λ (xs : List Group). cut.low ++ g ∷ xs) none in
    let group : Group = record { front = w.low ++ w.rest; owner = w.owner } in
    let groups : gs ≡ cut.low ++ g ∷ group ∷ w.late =
    w.groups ∙ ap (λ (xs : List Group). xs ++ group ∷ w.late) early ∙ append_assoc cut.low (g ∷ []) (group ∷ w.late) in
    let list : records w.early ++ w.low ≡ (records cut.low ++ g.front) ++ (g.owner ∷ w.low) =
    ap (λ (xs : List Group). records xs ++ w.low) early ∙ ap (λ (xs : List ℕ). xs ++ w.low) (flat_map-append members cut.low (g ∷ [])) ∙ simp append_assoc in
    record {
      front = records cut.low ++ g.front;
      owner = g.owner;
      is = w.first ∙ list;
      owner_is = owner_named m.slots cut.low g (group ∷ w.late) (length w.early - 1) (c.page.groups.slots ∙ ap owners groups) cut.size;
    }

-- from the owner of the slot before there is a way
pub way_to_previous : {bytes : List ℕ} {m : Mirror} {gs : List Group} {free : List ℕ} {b : Between} {at : ℕ} (w : GroupAround gs b) → CanLeave bytes m gs free b at
    → (rest : List ℕ) × LeadsToPrevious m rest b.p b.here (slice_index m.slots (length w.early - 1))
way_to_previous {bytes} {m} {gs} {free} {b} w c =
    let s = slot_before w c in
    let few = (of_group w c).few in
    let last = last_of_second b.low b.p s.front (s.owner ∷ w.low) s.is (omega arith) in
    let rest = last.0 in
    let before : b.low ++ b.p ∷ [] ≡ s.front ++ (rest ++ b.p ∷ []) = s.is ∙ ap (λ (xs : List ℕ). s.front ++ xs) last.1 in
    let shape : records gs ≡ s.front ++ ((rest ++ b.p ∷ b.here ∷ []) ++ b.n ∷ b.high) = c.list ∙ ap (λ (xs : List ℕ). xs ++ b.here ∷ b.n ∷ b.high) before ∙ simp append_assoc in
    let linked : AreLinked m.next (s.front ++ ((rest ++ b.p ∷ b.here ∷ []) ++ b.n ∷ b.high)) = rw shape at c.page.order.linked in
    let apart = subst (AllByRecursion (λ k. k ≡ b.here → ⊥)) before (apart_from c).before in (
      rest,
      record {
        first = first_is rest b.p s.owner w.low (sym last.1) ∙ sym s.owner_is;
        linked = linked_left m.next (rest ++ b.p ∷ b.here ∷ []) (b.n ∷ b.high) (linked_right m.next s.front ((rest ++ b.p ∷ b.here ∷ []) ++ b.n ∷ b.high) linked);
        apart = each_right (λ k. k ≡ b.here → ⊥) s.front (rest ++ b.p ∷ []) apart;
        short = omega (arith, ap length last.1, length-append rest (b.p ∷ []), length-append w.low w.rest);
      },
    )

leads_first : (next : ℕ → ℕ) (x : ℕ) (xs : List ℕ) (p r : ℕ) → AreLinked next (x ∷ xs ++ p ∷ r ∷ []) → next x ≡ first_else xs p
leads_first next x [] p r l = l.0
leads_first next x (y ∷ ys) p r l = l.0

first_apart : (xs : List ℕ) (p r : ℕ) → AllByRecursion (λ k. k ≡ r → ⊥) (xs ++ p ∷ []) → first_else xs p ≡ r → ⊥
first_apart [] p r a = a.0
first_apart (x ∷ xs) p r a = a.0

-- the record that leads to r is the last of the way
pub leads_last : {m : Mirror} (rest : List ℕ) {p r h : ℕ} → LeadsToPrevious m rest p r h → m.next h ≡ r → p ≡ h
leads_last [] w is = w.first
leads_last {m} (x ∷ xs) {p} {r} w is = absurd (first_apart xs p r w.apart.1 (sym (leads_first m.next x xs p r w.linked) ∙ ap m.next w.first ∙ is))

pub leads_over : {m : Mirror} (rest : List ℕ) {p r h : ℕ} → LeadsToPrevious m rest p r h → length rest ≤ 0 → p ≡ h
leads_over [] w none = w.first
leads_over (x ∷ xs) w none = absurd (omega arith)

-- from another the way goes on
pub leads_on : {m : Mirror} (rest : List ℕ) {p r h : ℕ} → LeadsToPrevious m rest p r h → (m.next h ≡ r → ⊥) → (rest' : List ℕ) × LeadsToPrevious m rest' p r (m.next h) × (length rest' + 1 ≡ length rest)
leads_on {m} [] w other = absurd (other (ap m.next (sym w.first) ∙ w.linked.0))
leads_on {m} (x ∷ xs) {p} {r} w other =
    let short = w.short in (
      xs,
      record {
        first = sym (leads_first m.next x xs p r w.linked) ∙ ap m.next w.first;
        linked = linked_right m.next (x ∷ []) (xs ++ p ∷ r ∷ []) w.linked;
        apart = w.apart.1;
        short = omega arith;
      },
      omega arith,
    )
