-- The groups and the list with one record less.
use Rattle.std.proofs.Common.{◌≡◌, ℕ, ◌+◌, ◌-◌, ◌<◌, ◌≤◌, List, [], ◌∷◌, ◌++◌, length, set, nat_eq, count_by, cond, refl, sym, ap, subst, ◌∙◌, arith, length-append}
use Rattle.std.proofs.lemmas.List.{append_assoc, set_at}
use Rattle.std.proofs.lemmas.List.Sums.{sum_by-append, sum_by-cons}
use Rattle.std.proofs.lemmas.Grind.{flat_map-append}
use Rattle.std.specs.List.{AllByRecursion}
use Rattle.list_facts.proofs.Each.{each_left, each_right, each_append, each_both, each_weaker}
use Rattle.page_mirror.specs.Mirror.{Mirror, Mirrors, changed}
use Rattle.page_mirror.proofs.KeptLemmas.{changed-same, changed-other}
use Rattle.page_directory.specs.Groups.{Group, members, records, owners, AreLinked, IsOwned, IsRecordList}
use Rattle.page_directory.proofs.ListLemmas.{counted_apart}
use Rattle.page_directory.proofs.GroupLemmas.{groups_kept, owners_append, count_owners}
use Rattle.page_list.specs.Leaving.{Between, CanLeave, GroupAround, linked_out, groups_around, IsLinkedOut}
use Rattle.page_list.proofs.LinkLemmas.{linked_kept}
use Rattle.page_list.proofs.AroundLemmas.{GroupRest, group_rest, of_group, Remains, remains}

-- r is passed over
linked_less : (next next' : ℕ → ℕ) (xs : List ℕ) (p r n : ℕ) (ys : List ℕ) → AllByRecursion (λ h. next' h ≡ next h) xs → AllByRecursion (λ h. next' h ≡ next h) (n ∷ ys)
    → next' p ≡ n → AreLinked next ((xs ++ p ∷ []) ++ r ∷ n ∷ ys) → AreLinked next' ((xs ++ p ∷ []) ++ n ∷ ys)
linked_less next next' [] p r n ys a b e l = (e, linked_kept next next' (n ∷ ys) b l.1.1)
linked_less next next' (x ∷ []) p r n ys a b e l = (a.0 ∙ l.0, linked_less next next' [] p r n ys tt b e l.1)
linked_less next next' (x ∷ y ∷ xs) p r n ys a b e l = (a.0 ∙ l.0, linked_less next next' (y ∷ xs) p r n ys a.1 b e l.1)

-- one number less among some
once_less : (r : ℕ) (xs ys zs : List ℕ) → ((h : ℕ) → count_by (λ k. nat_eq k h) ((xs ++ r ∷ ys) ++ zs) ≤ 1) → (h : ℕ) → count_by (λ k. nat_eq k h) ((xs ++ ys) ++ zs) ≤ 1
once_less r xs ys zs once h =
    let f : ℕ → ℕ = λ k. cond (nat_eq k h) 1 0 in
    let a = sum_by-append f (xs ++ r ∷ ys) zs in
    let b = sum_by-append f xs (r ∷ ys) in
    let c = sum_by-cons f r ys in
    let d = sum_by-append f (xs ++ ys) zs in
    let e = sum_by-append f xs ys in
    let old = once h in
    omega arith

each_less : (P : ℕ → Type 0) (xs : List ℕ) (r : ℕ) (ys zs : List ℕ) → AllByRecursion P ((xs ++ r ∷ ys) ++ zs) → AllByRecursion P ((xs ++ ys) ++ zs)
each_less P xs r ys zs a =
    let both = each_left P (xs ++ r ∷ ys) zs a in
    each_append P (xs ++ ys) zs (each_append P xs ys (each_left P xs (r ∷ ys) both) (each_right P xs (r ∷ ys) both).1) (each_right P (xs ++ r ∷ ys) zs a)

-- the list without the record
pub order_without : {bytes : List ℕ} {m : Mirror} {gs : List Group} {free : List ℕ} {b : Between} {at : ℕ} (owned : ℕ → ℕ) (slots : List ℕ)
    → CanLeave bytes m gs free b at → IsRecordList (linked_out m b owned slots) ((b.low ++ b.p ∷ []) ++ b.n ∷ b.high) free
order_without {bytes} {m} {gs} {free} {b} owned slots c =
    let order = c.page.order in
    let r = b.here in
    let z1 = b.low ++ b.p ∷ [] in
    let z2 = b.n ∷ b.high in
    let next' : ℕ → ℕ = changed m.next b.p b.n in
    let differ : ℕ → Type 0 = λ k. k ≡ b.p → ⊥ in
    let once : (k : ℕ) → count_by (λ i. nat_eq i k) ((z1 ++ r ∷ z2) ++ free) ≤ 1 = rw c.list at order.once in
    let inside : AllByRecursion (λ k. k < m.count) ((z1 ++ r ∷ z2) ++ free) = rw c.list at order.inside in
    let linked : AreLinked m.next (z1 ++ r ∷ z2) = rw c.list at order.linked in
    let at_p : (z1 ++ r ∷ z2) ++ free ≡ b.low ++ b.p ∷ ((r ∷ z2) ++ free) = simp append_assoc in
    let from = counted_apart b.p b.low ((r ∷ z2) ++ free) (rw (← at_p) (once b.p)) in
    let same = each_weaker differ (λ k. next' k ≡ m.next k) (λ k o. changed-other m.next b.p b.n k o) in
    record {
      linked = linked_less m.next next' b.low b.p r b.n b.high (same b.low from.0) (same z2 (each_left differ z2 free from.1.1)) (changed-same m.next b.p b.n) linked;
      once = once_less r z1 z2 free once;
      inside = each_less (λ k. k < m.count) z1 r z2 free inside;
      rows = omega (arith, order.rows, ap length c.list, length-append z1 (r ∷ z2), length-append z1 z2, length-append b.low (b.p ∷ []));
    }

-- the group that is left, and the groups with it
abbrev pub left_group : {m : Mirror} {gs : List Group} {b : Between} {w : GroupAround gs b} {r : GroupRest gs b w} → Remains m gs b w r → Group
left_group t = record { front = t.front; owner = t.heir }

list_without : (gs : List Group) (b : Between) (w : GroupAround gs b) (g : Group) (behind : List ℕ) → members g ≡ w.low ++ behind → b.n ∷ b.high ≡ behind ++ records w.late
    → records (groups_around gs b w g) ≡ (b.low ++ b.p ∷ []) ++ b.n ∷ b.high
list_without gs b w g behind is after =
    flat_map-append members w.early (g ∷ w.late) ∙ ap (λ (xs : List ℕ). records w.early ++ (xs ++ records w.late)) is
    ∙ ap (λ (xs : List ℕ). records w.early ++ xs) (append_assoc w.low behind (records w.late)) ∙ sym (append_assoc (records w.early) w.low (behind ++ records w.late))
    ∙ ap (λ (xs : List ℕ). (records w.early ++ w.low) ++ xs) (sym after) ∙ ap (λ (xs : List ℕ). xs ++ (b.n ∷ b.high)) (sym w.first)

-- in those groups the heir owns its own
groups_less : {m : Mirror} {gs : List Group} {b : Between} (free : List ℕ) (w : GroupAround gs b) (r : GroupRest gs b w) (t : Remains m gs b w r) (count : ℕ)
    → length t.front + 1 ≡ count → AllByRecursion (IsOwned m.owned) gs
    → ((h : ℕ) → count_by (λ k. nat_eq k h) (records (groups_around gs b w (left_group t)) ++ free) ≤ 1)
    → AllByRecursion (IsOwned (changed m.owned t.heir count)) (groups_around gs b w (left_group t))
groups_less {m} {gs} {b} free w r t count size owned once =
    let q = t.heir in
    let es = w.early in
    let bs = w.late in
    let old : Group = record { front = w.low ++ w.rest; owner = w.owner } in
    let owned' : ℕ → ℕ = changed m.owned q count in
    let differ : ℕ → Type 0 = λ k. k ≡ q → ⊥ in
    let shape : records (es ++ left_group t ∷ bs) ++ free ≡ (records es ++ t.front) ++ q ∷ (records bs ++ free) =
    ap (λ (xs : List ℕ). xs ++ free) (flat_map-append members es (left_group t ∷ bs)) ∙ simp append_assoc in
    let from = counted_apart q (records es ++ t.front) (records bs ++ free) (rw (← shape) (once q)) in
    let same = each_weaker differ (λ k. owned' k ≡ m.owned k) (λ k o. changed-other m.owned q count k o) in
    let groups : AllByRecursion (IsOwned m.owned) (es ++ old ∷ bs) = rw w.groups at owned in
    each_append (IsOwned owned') es (left_group t ∷ bs)
    (groups_kept m.owned owned' es (same (records es) (each_left differ (records es) t.front from.0)) (each_left (IsOwned m.owned) es (old ∷ bs) groups)) (
      record {
        owner = changed-same m.owned q count ∙ sym size;
        front = each_both differ (λ k. m.owned k ≡ 0) (λ k. owned' k ≡ 0) (λ k o z. changed-other m.owned q count k o ∙ z) t.front (each_right differ (records es) t.front from.0) t.zeros;
      },
      groups_kept m.owned owned' bs (same (records bs) (each_left differ (records bs) free from.1)) (each_right (IsOwned m.owned) es (old ∷ bs) groups).1,
    )

-- how many are left
pub left_size : {m : Mirror} {gs : List Group} {b : Between} (w : GroupAround gs b) (r : GroupRest gs b w) (t : Remains m gs b w r) → length t.front + 1 ≡ length (w.low ++ w.rest)
left_size w r t =
    omega (
      arith,
      ap length t.is,
      length-append t.front (t.heir ∷ []),
      length-append w.low r.behind,
      ap length r.rest_is,
      length-append w.rest (w.owner ∷ []),
      length-append w.low w.rest,
    )

-- the slots with the heir's name
pub slots_renamed : {m : Mirror} {gs : List Group} {b : Between} (w : GroupAround gs b) (r : GroupRest gs b w) (t : Remains m gs b w r) → m.slots ≡ owners gs
    → set m.slots (length w.early) t.heir ≡ owners (groups_around gs b w (left_group t))
slots_renamed {m} {gs} {b} w r t is =
    let old : Group = record { front = w.low ++ w.rest; owner = w.owner } in
    ap (λ (xs : List ℕ). set xs (length w.early) t.heir) (is ∙ ap owners w.groups ∙ owners_append w.early (old ∷ w.late))
    ∙ set_at (owners w.early) w.owner (owners w.late) t.heir (length w.early) (count_owners w.early) ∙ sym (owners_append w.early (left_group t ∷ w.late))

-- the page without the record in its list
pub passes_over : {b0 b1 : List ℕ} {m : Mirror} {gs : List Group} {free : List ℕ} {b : Between} {at : ℕ} (w : GroupAround gs b) (c : CanLeave b0 m gs free b at) (count : ℕ)
    → m.owned w.owner ≡ count → (let t = remains w (group_rest gs b w) c in Mirrors b1 (linked_out m b (changed m.owned t.heir (count - 1)) (set m.slots (length w.early) t.heir)) → IsLinkedOut b1 m gs free b w)
passes_over {b0} {b1} {m} {gs} {free} {b} w c count owns is =
    let r = group_rest gs b w in
    let t = remains w r c in
    let g = of_group w c in
    let slots = slots_renamed w r t c.page.groups.slots in
    let owned' : ℕ → ℕ = changed m.owned t.heir (count - 1) in
    let hs = groups_around gs b w (left_group t) in
    let list = list_without gs b w (left_group t) r.behind t.is r.after_is in
    let order = subst (λ (xs : List ℕ). IsRecordList (linked_out m b owned' (owners hs)) xs free) (sym list) (order_without owned' (owners hs) c) in
    let size = left_size w r t in
    record {
      group = left_group t;
      owned = owned';
      page = record {
        is = subst (λ (xs : List ℕ). Mirrors b1 (linked_out m b owned' xs)) slots is;
        groups = record { slots = refl; owned = groups_less free w r t (count - 1) (omega (arith, size, owns, g.owns)) c.page.groups.owned order.once };
        order = order;
      };
      list = list;
      short = size;
    }
