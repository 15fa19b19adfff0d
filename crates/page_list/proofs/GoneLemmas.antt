-- Whether a record's slot goes with it.
use Rattle.std.proofs.Common.{◌≡◌, ℕ, ◌+◌, ◌-◌, ◌<◌, ◌≤◌, Bool, true, false, cond, ◌&&◌, List, [], ◌∷◌, ◌++◌, length, slice_index, nat_eq, nat_le, nat_lt, refl, sym, ap, ◌∙◌, arith, length-append}
use Rattle.std.proofs.lemmas.List.{get_or_at, append_assoc}
use Rattle.std.proofs.lemmas.Bool.Decides.{nat_tests}
use Rattle.page_directory.specs.Groups.{Group, members, records}
use Rattle.page_directory.specs.Sizes.{group_sizes}
use Rattle.page_directory.proofs.OwnerLemmas.{sizes_append, count_sizes, slots_counted}
use Rattle.page_mirror.specs.Mirror.{Mirror}
use Rattle.page_list.specs.Leaving.{Between, CanLeave, GroupAround, begins_with_few, slot_goes, slots_gone}

-- the record is behind those of the first groups, and within the next
goes_at : (early : List Group) (n : ℕ) (ys low : List ℕ) (k : ℕ) → k ≡ length (records early ++ low) → length low < n → slot_goes (group_sizes early ++ n ∷ ys) k ≡ (nat_eq n 4 && begins_with_few ys)
goes_at [] n ys low k is few =
    let t : nat_lt k n ≡ true = grind (arith, nat_tests) in
    rw t refl
goes_at (g ∷ gs) n ys low k is few =
    let size = length g.front + 1 in
    let all : k ≡ size + length (records gs ++ low) =
    omega (arith, is, length-append (records (g ∷ gs)) low, length-append (members g) (records gs), length-append g.front (g.owner ∷ []), length-append (records gs) low) in
    let t : nat_lt k size ≡ false = grind (arith, nat_tests) in
    rw t (goes_at gs n ys low (k - size) (omega arith) few)

-- by its group: that has four, and isn't the last, and the next has four at most
pub gone_around : (gs : List Group) (b : Between) (w : GroupAround gs b)
    → slot_goes (group_sizes gs) (length b.low + 1) ≡ (nat_eq (length (w.low ++ w.rest) + 1) 4 && begins_with_few (group_sizes w.late))
gone_around gs b w =
    let group : Group = record { front = w.low ++ w.rest; owner = w.owner } in
    let n = length (w.low ++ w.rest) + 1 in
    let sizes : group_sizes gs ≡ group_sizes w.early ++ n ∷ group_sizes w.late = ap group_sizes w.groups ∙ sizes_append w.early (group ∷ w.late) in
    let number : length b.low + 1 ≡ length (records w.early ++ w.low) = omega (arith, length-append b.low (b.p ∷ []), ap length w.first) in
    ap (λ (ns : List ℕ). slot_goes ns (length b.low + 1)) sizes
    ∙ goes_at w.early n (group_sizes w.late) w.low (length b.low + 1) number (omega (arith, length-append w.low w.rest))

-- the same by how many are left in front of the owner and itself
pub gone_left : (gs : List Group) (b : Between) (w : GroupAround gs b) (n : ℕ) → length (w.low ++ w.rest) ≡ n
    → slots_gone gs b ≡ cond (nat_eq (n + 1) 4 && begins_with_few (group_sizes w.late)) 1 0
gone_left gs b w n is = rw (gone_around gs b w, is) refl

-- the slot of the record, as its group tells
pub record OfSlot (m : Mirror) (gs : List Group) (b : Between) (w : GroupAround gs b) (slot : ℕ) : Type 0 where
  pub within : slot < length gs
  pub behind : length (group_sizes w.early) ≡ slot
  pub sizes : group_sizes gs ≡ group_sizes w.early ++ (length (w.low ++ w.rest) + 1) ∷ group_sizes w.late
  pub here : slice_index (group_sizes gs) slot ≡ length (w.low ++ w.rest) + 1
  pub count : length m.slots ≡ slot + 1 + length (group_sizes w.late)

pub of_slot : {bytes : List ℕ} {m : Mirror} {gs : List Group} {free : List ℕ} {b : Between} {at : ℕ} (w : GroupAround gs b) (slot : ℕ) → CanLeave bytes m gs free b at → slot ≡ length w.early → OfSlot m gs b w slot
of_slot {m = m} {gs = gs} w slot c is =
    let group : Group = record { front = w.low ++ w.rest; owner = w.owner } in
    let n = length (w.low ++ w.rest) + 1 in
    let sizes : group_sizes gs ≡ group_sizes w.early ++ n ∷ group_sizes w.late = ap group_sizes w.groups ∙ sizes_append w.early (group ∷ w.late) in
    let behind : length (group_sizes w.early) ≡ slot = count_sizes w.early ∙ sym is in
    let all = ap length w.groups ∙ length-append w.early (group ∷ w.late) in
    record {
      within = omega (arith, all);
      behind = behind;
      sizes = sizes;
      here = ap (λ (ns : List ℕ). slice_index ns slot) sizes ∙ get_or_at (group_sizes w.early) n (group_sizes w.late) 0 slot behind;
      count = omega (arith, all, slots_counted c.page.groups, count_sizes w.late);
    }

-- it stays where it has other than four
pub other_stays : {m : Mirror} {gs : List Group} {b : Between} {slot : ℕ} (w : GroupAround gs b) (n : ℕ) → OfSlot m gs b w slot → n ≡ slice_index (group_sizes gs) slot → (n ≡ 4 → ⊥)
    → false ≡ slot_goes (group_sizes gs) (length b.low + 1)
other_stays {gs = gs} {b = b} w n o is other =
    let size = length (w.low ++ w.rest) + 1 in
    let t : nat_eq size 4 ≡ false = not_equal size 4 (λ e. other (is ∙ o.here ∙ e)) in
    sym (gone_around gs b w ∙ ap (λ (z : Bool). z && begins_with_few (group_sizes w.late)) t)
  where
    not_equal : (x y : ℕ) → (x ≡ y → ⊥) → nat_eq x y ≡ false
    not_equal x y apart = grind (arith, nat_tests)

four_told : (n : ℕ) → n ≡ 4 → nat_eq n 4 ≡ true
four_told n e = grind (arith, nat_tests)

-- and where it is the last
pub last_stays : {m : Mirror} {gs : List Group} {b : Between} {slot : ℕ} (w : GroupAround gs b) (n : ℕ) → OfSlot m gs b w slot → n ≡ slice_index (group_sizes gs) slot → n ≡ 4 → slot + 1 ≡ length m.slots
    → false ≡ slot_goes (group_sizes gs) (length b.low + 1)
last_stays {gs = gs} {b = b} w n o is four last =
    let t = four_told (length (w.low ++ w.rest) + 1) (sym (is ∙ o.here) ∙ four) in
    let count = o.count in
    sym (gone_around gs b w ∙ ap (λ (z : Bool). z && begins_with_few (group_sizes w.late)) t ∙ none (group_sizes w.late) (omega arith))
  where
    none : (ys : List ℕ) → length ys ≡ 0 → begins_with_few ys ≡ false
    none [] e = refl
    none (y ∷ ys) e = absurd (omega arith)

-- else it goes where the next one has four at most
pub next_tells : {m : Mirror} {gs : List Group} {b : Between} {slot : ℕ} (w : GroupAround gs b) (n next : ℕ) → OfSlot m gs b w slot → n ≡ slice_index (group_sizes gs) slot → n ≡ 4 → (slot + 1 ≡ length m.slots → ⊥)
    → next ≡ slice_index (group_sizes gs) (slot + 1) → nat_le next 4 ≡ slot_goes (group_sizes gs) (length b.low + 1)
next_tells {gs = gs} {b = b} {slot = slot} w n next o is four inner next_is =
    let size = length (w.low ++ w.rest) + 1 in
    let t = four_told size (sym (is ∙ o.here) ∙ four) in
    let count = o.count in
    let low = group_sizes w.early in
    let some : 1 ≤ length (group_sizes w.late) = omega arith in
    let first : next ≡ slice_index (low ++ size ∷ group_sizes w.late) (slot + 1) = next_is ∙ ap (λ (ns : List ℕ). slice_index ns (slot + 1)) o.sizes in
    sym (gone_around gs b w ∙ ap (λ (z : Bool). z && begins_with_few (group_sizes w.late)) t ∙ few low size (group_sizes w.late) (slot + 1) (omega (arith, o.behind)) some next first)
  where
    few : (xs : List ℕ) (x : ℕ) (ys : List ℕ) (s : ℕ) → length xs + 1 ≡ s → 1 ≤ length ys → (y : ℕ) → y ≡ slice_index (xs ++ x ∷ ys) s → begins_with_few ys ≡ nat_le y 4
    few xs x [] s e some y y_is = absurd (omega arith)
    few xs x (z ∷ ys) s e some y y_is =
        let at : slice_index ((xs ++ x ∷ []) ++ z ∷ ys) s ≡ z = get_or_at (xs ++ x ∷ []) z ys 0 s (omega (arith, length-append xs (x ∷ []))) in
        let same : y ≡ z = y_is ∙ ap (λ (ns : List ℕ). slice_index ns s) (sym (append_assoc xs (x ∷ []) (z ∷ ys))) ∙ at in
        ap (λ (k : ℕ). nat_le k 4) (sym same)
