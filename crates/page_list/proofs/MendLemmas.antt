-- How many records the slots have once a record has left, and how many slots there are.
use Rattle.std.proofs.Common.{◌≡◌, ℕ, ◌+◌, ◌-◌, ◌<◌, ◌≤◌, Bool, true, false, ◌&&◌, cond, List, [], ◌∷◌, ◌++◌, length, take, drop, slice_index, nat_eq, nat_le, nat_lt, refl, sym, ap, subst, ◌∙◌, arith, length-append, length-take, length-drop, inl, inr}
use Rattle.std.proofs.lemmas.List.{get_or_at, append_assoc}
use Rattle.std.proofs.lemmas.Bool.{cases_eq}
use Rattle.std.proofs.lemmas.Bool.Decides.{nat_tests}
use Rattle.page_mirror.specs.Mirror.{Mirror}
use Rattle.page_directory.specs.Groups.{Group, owners, HasGroups}
use Rattle.page_directory.specs.Sizes.{group_sizes, IsSized, IsSizedBut, sizes_balanced, sizes_joined, sizes_moved}
use Rattle.page_directory.specs.Calls.{CanBalanceSlot, Regroups}
use Rattle.page_directory.proofs.OwnerLemmas.{slots_counted, sizes_append, count_sizes}
use Rattle.page_list.specs.Leaving.{Between, CanLeave, GroupAround, IsLinkedOut, groups_around, linked_out, HasShortSlot, sizes_mended, begins_with_few}
use Rattle.page_list.proofs.SlotSizeLemmas.{same_beside}
use Rattle.page_list.proofs.AroundLemmas.{of_group}

-- another size in one slot
sized_but : (xs ys : List ℕ) (j k s : ℕ) → IsSized (xs ++ j ∷ ys) → 1 ≤ length xs → length xs ≡ s → IsSizedBut s k (xs ++ k ∷ ys)
sized_but xs ys j k s r low is =
    let size : length (xs ++ k ∷ ys) ≡ length (xs ++ j ∷ ys) = length-append xs (k ∷ ys) ∙ sym (length-append xs (j ∷ ys)) in
    record {
      behind = omega arith;
      within = omega (arith, length-append xs (k ∷ ys));
      here = get_or_at xs k ys 0 s is;
      others = λ i w other. rw (← same_beside xs ys j k i (λ e. other (e ∙ is)), size) (r.each i (rw (← size) w));
    }

-- the slot that is one short
pub short_slot : {b0 b1 : List ℕ} {m : Mirror} {gs : List Group} {free : List ℕ} {b : Between} {at slot : ℕ} (w : GroupAround gs b) → CanLeave b0 m gs free b at → slot ≡ length w.early
    → (l : IsLinkedOut b1 m gs free b w) → HasShortSlot b1 (linked_out m b l.owned (owners (groups_around gs b w l.group))) (groups_around gs b w l.group) free slot
short_slot {gs = gs} {b = b} {slot = slot} w c is l =
    let g = of_group w c in
    let old : Group = record { front = w.low ++ w.rest; owner = w.owner } in
    let size = length l.group.front + 1 in
    let sizes : IsSized (group_sizes w.early ++ (length (w.low ++ w.rest) + 1) ∷ group_sizes w.late) = subst IsSized (ap group_sizes w.groups ∙ sizes_append w.early (old ∷ w.late)) c.sizes in
    let short = l.short in
    let two = g.two in
    let few = g.few in
    let behind = g.behind in
    let count = count_sizes w.early in
    record {
      page = l.page;
      size = size;
      sizes = subst (IsSizedBut slot size) (sym (sizes_append w.early (l.group ∷ w.late)))
          (sized_but (group_sizes w.early) (group_sizes w.late) (length (w.low ++ w.rest) + 1) size slot sizes (omega arith) (count ∙ sym is));
      some = omega arith;
      most = omega arith;
      least = λ inner. let four = g.many (omega (arith, length-append w.early (l.group ∷ w.late))) in omega arith;
    }

-- the slot has three, and isn't the last
pub can_balance : {bytes : List ℕ} {m : Mirror} {gs : List Group} {free : List ℕ} {s : ℕ} (h : HasShortSlot bytes m gs free s) → s + 1 < length gs → slice_index (group_sizes gs) s ≡ 3
    → CanBalanceSlot bytes m gs free s
can_balance {gs = gs} {s = s} h inner three = record {
  page = h.page;
  sizes = subst (λ (n : ℕ). IsSizedBut s n (group_sizes gs)) (sym h.sizes.here ∙ three) h.sizes;
  inner = inner;
}

mended_true : (s : ℕ) (ns : List ℕ) → s + 1 < length ns → slice_index ns s ≡ 3 → (nat_lt (s + 1) (length ns) && nat_eq (slice_index ns s) 3) ≡ true
mended_true s ns inner three = grind (arith, nat_tests)

mended_false : (s : ℕ) (ns : List ℕ) → (s + 1 < length ns → slice_index ns s ≡ 3 → ⊥) → (nat_lt (s + 1) (length ns) && nat_eq (slice_index ns s) 3) ≡ false
mended_false s ns not = grind (arith, nat_tests)

pub mended_three : {bytes : List ℕ} {m : Mirror} {gs : List Group} {free : List ℕ} (s : ℕ) → s + 1 < length gs → slice_index (group_sizes gs) s ≡ 3
    → Regroups bytes m gs free (sizes_balanced s (group_sizes gs)) → Regroups bytes m gs free (sizes_mended s (group_sizes gs))
mended_three {bytes} {m} {gs} {free} s inner three r =
    let is : sizes_mended s (group_sizes gs) ≡ sizes_balanced s (group_sizes gs) = rw (mended_true s (group_sizes gs) (omega (arith, count_sizes gs)) three) refl in
    subst (Regroups bytes m gs free) (sym is) r

sized_whole : {s n : ℕ} {ns : List ℕ} → IsSizedBut s n ns → 1 ≤ n → n ≤ 8 → (s + 1 < length ns → 4 ≤ n) → IsSized ns
sized_whole {s} {n} {ns} r some most least =
    let behind = r.behind in
    let within = r.within in
    record {
      two = omega arith;
      each = λ k w. elim (cases_eq k s) [
        | inl is ↦ rw (is, r.here) (record { alone = λ e. absurd (omega arith); some = some; most = most; least = λ b i. least i })
        | inr other ↦ r.others k w other
      ];
    }

-- the slot has as many as it may
pub mended_other : {bytes : List ℕ} {m : Mirror} {gs : List Group} {free : List ℕ} {s : ℕ} → HasShortSlot bytes m gs free s → (s + 1 < length gs → slice_index (group_sizes gs) s ≡ 3 → ⊥)
    → Regroups bytes m gs free (sizes_mended s (group_sizes gs))
mended_other {bytes} {m} {gs} {free} {s} h not =
    let ns = group_sizes gs in
    let count = count_sizes gs in
    let here = h.sizes.here in
    let is : sizes_mended s ns ≡ ns = rw (mended_false s ns (λ i t. not (omega arith) t)) refl in
    let sized : IsSized ns = sized_whole h.sizes h.some h.most (λ i. let low = h.least (omega arith) in let other = not (omega arith) in omega (arith, λ (e : h.size ≡ 3). other (here ∙ e))) in (
      m.owned,
      gs,
      record {
        page = subst (λ (slots : List ℕ). HasGroups bytes (record m { slots = slots }) gs free) h.page.groups.slots h.page;
        same = refl;
        sizes = sym is;
        sized = rw is sized;
      },
    )

-- a slot with four is one with the next where that has four at most
balanced_count : (s n : ℕ) (ns : List ℕ) (b : Bool) → s + 1 < length ns → length (cond b (sizes_joined s n ns) (sizes_moved s n ns)) + cond b 1 0 ≡ length ns
balanced_count s n ns true inner = omega (arith, length-append (take s ns) ((n + 3) ∷ drop (s + 2) ns), length-take s ns, length-drop (s + 2) ns)
balanced_count s n ns false inner = omega (arith, length-append (take s ns) (4 ∷ (n - 1) ∷ drop (s + 2) ns), length-take s ns, length-drop (s + 2) ns)

mended_kept : (s : ℕ) (ns : List ℕ) → (s + 1 < length ns → slice_index ns s ≡ 3 → ⊥) → sizes_mended s ns ≡ ns
mended_kept s ns not = rw (mended_false s ns not) refl

four_told : (n : ℕ) → n ≡ 3 → nat_eq (n + 1) 4 ≡ true
four_told n e = grind (arith, nat_tests)

not_four : (n : ℕ) → (n ≡ 3 → ⊥) → nat_eq (n + 1) 4 ≡ false
not_four n other = grind (arith, nat_tests)

-- where the slot has three left
three_count : (xs : List ℕ) (n : ℕ) (ys : List ℕ) (s : ℕ) → length xs ≡ s → n ≡ 3 → length (sizes_mended s (xs ++ n ∷ ys)) + cond (begins_with_few ys) 1 0 ≡ length (xs ++ n ∷ ys)
three_count xs n [] s is three = rw (mended_kept s (xs ++ n ∷ []) (λ i t. absurd (omega (arith, length-append xs (n ∷ []))))) (omega arith)
three_count xs n (y ∷ ys) s is three =
    let ns = xs ++ n ∷ y ∷ ys in
    let inner : s + 1 < length ns = omega (arith, length-append xs (n ∷ y ∷ ys)) in
    let here : slice_index ns s ≡ 3 = get_or_at xs n (y ∷ ys) 0 s is ∙ three in
    let shape : ns ≡ (xs ++ n ∷ []) ++ y ∷ ys = sym (append_assoc xs (n ∷ []) (y ∷ ys)) in
    let next : slice_index ns (s + 1) ≡ y = ap (λ (zs : List ℕ). slice_index zs (s + 1)) shape ∙ get_or_at (xs ++ n ∷ []) y ys 0 (s + 1) (omega (arith, length-append xs (n ∷ []))) in
    let balanced : sizes_mended s ns ≡ sizes_balanced s ns = rw (mended_true s ns inner here) refl in
    let whole : length (sizes_balanced s ns) + cond (nat_le (slice_index ns (s + 1)) 4) 1 0 ≡ length ns = balanced_count s (slice_index ns (s + 1)) ns (nat_le (slice_index ns (s + 1)) 4) inner in
    ap (λ (zs : List ℕ). length zs + cond (nat_le y 4) 1 0) balanced ∙ subst (λ (z : ℕ). length (sizes_balanced s ns) + cond (nat_le z 4) 1 0 ≡ length ns) next whole

-- how many slots are left, where slot s has n left
pub mended_count : (xs : List ℕ) (n : ℕ) (ys : List ℕ) (s : ℕ) → length xs ≡ s
    → length (sizes_mended s (xs ++ n ∷ ys)) + cond (nat_eq (n + 1) 4 && begins_with_few ys) 1 0 ≡ length (xs ++ n ∷ ys)
mended_count xs n ys s is = elim (cases_eq n 3) [
  | inl three ↦ rw (four_told n three) (three_count xs n ys s is three)
  | inr other ↦
      let here : slice_index (xs ++ n ∷ ys) s ≡ n = get_or_at xs n ys 0 s is in
      rw (not_four n other, mended_kept s (xs ++ n ∷ ys) (λ i t. other (sym here ∙ t))) (omega arith)
]

pub slot_of : {bytes : List ℕ} {m : Mirror} {gs : List Group} {free : List ℕ} {s : ℕ} → HasShortSlot bytes m gs free s → s < length gs
slot_of {gs = gs} h = let within = h.sizes.within in omega (arith, count_sizes gs)

-- a page's end has room for fewer slots than a u16 counts
pub slot_fits : {bytes : List ℕ} {m : Mirror} {gs : List Group} {free : List ℕ} {s : ℕ} → HasShortSlot bytes m gs free s → s + 1 < 65536
slot_fits h =
    let within = slot_of h in
    let room = h.page.is.room in
    omega (arith, slots_counted h.page.groups)
