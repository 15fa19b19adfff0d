-- A slot with too few records.
use Rattle.std.proofs.Common.{◌≡◌, ℕ, zero, suc, ◌+◌, ◌-◌, ◌<◌, ◌≤◌, List, [], ◌∷◌, ◌++◌, length, get_or, slice_index, take, drop, nat_le, if◌then◌else◌, refl, sym, ap, subst, ◌∙◌, arith, length-append}
use Rattle.std.proofs.lemmas.List.{append_assoc, take_at, drop_at, get_or_append_left, get_or-append-add}
use Rattle.std.proofs.lemmas.Bool.Decides.{nat_tests}
use Rattle.std.specs.List.{remove}
use Rattle.page_mirror.specs.Mirror.{Mirror, Mirrors, changed}
use Rattle.page_mirror.specs.Steps.{owning, naming}
use Rattle.page_directory.specs.Groups.{Group, records, owners, AreLinked}
use Rattle.page_directory.specs.Sizes.{group_sizes, IsSized, IsSizedBut, MayOwn, sizes_balanced, sizes_joined, sizes_moved}
use Rattle.page_directory.specs.Calls.{CanBalanceSlot, Regroups}
use Rattle.page_directory.proofs.ListLemmas.{cut_at, linked_right}
use Rattle.page_directory.proofs.GroupLemmas.{records_one, records_two, two_own, owned_joined, owners_joined}
use Rattle.page_directory.proofs.SizeLemmas.{sized_again, may_inner}
use Rattle.page_directory.proofs.OwnerLemmas.{owner_named, slots_counted, count_sizes, sizes_append, size_at}
use Rattle.page_directory.proofs.SplitLemmas.{order_kept}

-- the group of three, and the next one, of n
pub record AtThree (m : Mirror) (gs : List Group) (s n : ℕ) : Type 0 where
  pub es : List Group
  pub f1 : List ℕ
  pub o : ℕ
  pub f2 : List ℕ
  pub p : ℕ
  pub bs : List Group
  pub groups : gs ≡ es ++ record { front = f1; owner = o } ∷ record { front = f2; owner = p } ∷ bs
  pub count : length es ≡ s
  pub two : length f1 ≡ 2
  pub rest : length f2 + 1 ≡ n
  pub owner_is : slice_index m.slots s ≡ o
  pub next_is : slice_index m.slots (s + 1) ≡ p
  pub links : AreLinked m.next (o ∷ (f2 ++ p ∷ records bs))

pub at_three : {bytes : List ℕ} {m : Mirror} {gs : List Group} {free : List ℕ} {s n : ℕ} → CanBalanceSlot bytes m gs free s
    → slice_index (group_sizes gs) (s + 1) ≡ n → AtThree m gs s n
at_three {bytes} {m} {gs} {free} {s} {n} can next_size =
    let inner = can.inner in
    let low : s < length gs = omega arith in
    let c = cut_at gs s low in
    let size : length gs ≡ length c.low + suc (length c.high) = ap length c.is ∙ length-append c.low (c.here ∷ c.high) in
    let more : 0 < length c.high = omega (arith, c.size) in
    let d = cut_at c.high 0 more in
    let g = c.here in
    let h = d.here in
    let none : length d.low ≡ 0 = d.size in
    let first : d.low ++ h ∷ d.high ≡ h ∷ d.high = ap (λ (x : List Group). x ++ h ∷ d.high) (none_before d.low none) in
    let groups : gs ≡ c.low ++ g ∷ h ∷ d.high = c.is ∙ ap (λ (x : List Group). c.low ++ g ∷ x) (d.is ∙ first) in
    let next_groups : gs ≡ (c.low ++ g ∷ []) ++ h ∷ d.high = groups ∙ sym (append_assoc c.low (g ∷ []) (h ∷ d.high)) in
    let next_count : length (c.low ++ g ∷ []) ≡ s + 1 = length-append c.low (g ∷ []) ∙ omega (arith, c.size) in
    let list : records gs ≡ (records c.low ++ g.front) ++ (g.owner ∷ (h.front ++ h.owner ∷ records d.high)) =
    ap records groups ∙ records_two c.low g.front g.owner h.front h.owner d.high in
    let linked : AreLinked m.next ((records c.low ++ g.front) ++ (g.owner ∷ (h.front ++ h.owner ∷ records d.high))) = rw list at can.page.order.linked in
    let three : length g.front + 1 ≡ 3 =
    sym (ap (λ (x : List Group). slice_index (group_sizes x) s) groups ∙ size_at c.low g (h ∷ d.high) s c.size) ∙ can.sizes.here in
    record {
      es = c.low;
      f1 = g.front;
      o = g.owner;
      f2 = h.front;
      p = h.owner;
      bs = d.high;
      groups = groups;
      count = c.size;
      two = omega arith;
      rest = sym (ap (λ (x : List Group). slice_index (group_sizes x) (s + 1)) next_groups ∙ size_at (c.low ++ g ∷ []) h d.high (s + 1) next_count) ∙ next_size;
      owner_is = owner_named m.slots c.low g (h ∷ d.high) s (can.page.groups.slots ∙ ap owners groups) c.size;
      next_is = owner_named m.slots (c.low ++ g ∷ []) h d.high (s + 1) (can.page.groups.slots ∙ ap owners next_groups) next_count;
      links = linked_right m.next (records c.low ++ g.front) (g.owner ∷ (h.front ++ h.owner ∷ records d.high)) linked;
    }
  where
    none_before : (xs : List Group) → length xs ≡ 0 → xs ≡ []
    none_before [] e = refl
    none_before (x ∷ xs) e = absurd (omega arith)

-- the slot and the next one are among the slots
pub next_in_slots : {bytes : List ℕ} {m : Mirror} {gs : List Group} {free : List ℕ} {s : ℕ} → CanBalanceSlot bytes m gs free s → s + 1 < length m.slots
next_in_slots can =
    let inner = can.inner in
    omega (arith, slots_counted can.page.groups)

pub here_in_slots : {bytes : List ℕ} {m : Mirror} {gs : List Group} {free : List ℕ} {s : ℕ} → CanBalanceSlot bytes m gs free s → s < length m.slots
here_in_slots can =
    let next = next_in_slots can in
    omega (arith, next)

-- a page's end has room for fewer slots than a u16 counts
pub next_fits : {bytes : List ℕ} {m : Mirror} {gs : List Group} {free : List ℕ} {s : ℕ} → CanBalanceSlot bytes m gs free s → s + 1 < 65536
next_fits can =
    let next = next_in_slots can in
    omega (arith, next, can.page.is.room)

-- the next slot's owner owns at most eight, and the sizes around the two
pub record SizesAt (gs : List Group) (s n : ℕ) (low high : List ℕ) : Type 0 where
  pub is : group_sizes gs ≡ low ++ (3 ∷ n ∷ high)
  pub count : length low ≡ s
  pub some : 1 ≤ n
  pub most : n ≤ 8
  pub sizes : IsSizedBut s 3 (low ++ (3 ∷ n ∷ high))
  pub front : take s (group_sizes gs) ≡ low
  pub back : drop (s + 2) (group_sizes gs) ≡ high

pub sizes_at : {bytes : List ℕ} {m : Mirror} {gs : List Group} {free : List ℕ} {s n : ℕ} → CanBalanceSlot bytes m gs free s → (t : AtThree m gs s n)
    → SizesAt gs s n (group_sizes t.es) (group_sizes t.bs)
sizes_at {gs = gs} {s = s} {n = n} can t =
    let one : Group = record { front = t.f1; owner = t.o } in
    let two : Group = record { front = t.f2; owner = t.p } in
    let low = group_sizes t.es in
    let high = group_sizes t.bs in
    let three : length t.f1 + 1 ≡ 3 = omega (arith, t.two) in
    let is : group_sizes gs ≡ low ++ (3 ∷ n ∷ high) = ap group_sizes t.groups ∙ sizes_append t.es (one ∷ two ∷ t.bs) ∙ rw (three, t.rest) refl in
    let count : length low ≡ s = count_sizes t.es ∙ t.count in
    let size = length-append low (3 ∷ n ∷ high) in
    let sizes : IsSizedBut s 3 (low ++ (3 ∷ n ∷ high)) = rw is at can.sizes in
    let cut : low ++ (3 ∷ n ∷ high) ≡ (low ++ (3 ∷ n ∷ [])) ++ high = sym (append_assoc low (3 ∷ n ∷ []) high) in
    let here : get_or (low ++ (3 ∷ n ∷ high)) (length low + 1) 0 ≡ n = get_or-append-add low (3 ∷ n ∷ high) 1 0 in
    let next = sizes.others (length low + 1) (omega arith) (λ e. omega arith) in
    record {
      is = is;
      count = count;
      some = let some = next.some in omega arith;
      most = let most = next.most in omega arith;
      sizes = sizes;
      front = ap (take s) is ∙ take_at low (3 ∷ n ∷ high) s count;
      back = ap (drop (s + 2)) (is ∙ cut) ∙ drop_at (low ++ (3 ∷ n ∷ [])) high (s + 2) (length-append low (3 ∷ n ∷ []) ∙ omega (arith, count));
    }

-- the owners own as many as they may, with other sizes in place of three and n
sized_else : (low : List ℕ) (n : ℕ) (mid high : List ℕ) (s : ℕ) → length low ≡ s → IsSizedBut s 3 (low ++ (3 ∷ n ∷ high)) → 1 ≤ length mid
    → ((k : ℕ) → k < length mid → MayOwn (length (low ++ (mid ++ high))) (length low + k) (get_or mid k 0)) → IsSized (low ++ (mid ++ high))
sized_else low n mid high s size r some mine =
    let behind = r.behind in
    let all = length-append low (3 ∷ n ∷ high) in
    sized_again low (3 ∷ n ∷ []) mid high (omega arith) some
    (λ k w. rw (← get_or_append_left low (3 ∷ n ∷ high) 0 k w) (r.others k (omega arith) (λ e. omega arith)))
    (omega arith) mine
    (λ k w.
    let up : length low + 2 + k ≡ length low + suc (suc k) = omega arith in
    rw (up, ← get_or-append-add low (3 ∷ n ∷ high) (suc (suc k)) 0) (r.others (length low + suc (suc k)) (omega arith) (λ e. omega arith)))

sized_joined : (low : List ℕ) (n : ℕ) (high : List ℕ) (s : ℕ) → length low ≡ s → IsSizedBut s 3 (low ++ (3 ∷ n ∷ high)) → 1 ≤ n → n ≤ 4
    → IsSized (low ++ ((n + 3) ∷ high))
sized_joined low n high s size r some few = sized_else low n ((n + 3) ∷ []) high s size r (omega arith) one
  where
    one : (k : ℕ) → k < 1 → MayOwn (length (low ++ ((n + 3) ∷ high))) (length low + k) (get_or ((n + 3) ∷ []) k 0)
    one zero w = let behind = r.behind in may_inner (length (low ++ ((n + 3) ∷ high))) (length low + 0) (n + 3) (omega arith) (omega arith) (omega arith)
    one (suc k) w = absurd (omega arith)

pub sized_moved : (low : List ℕ) (n : ℕ) (high : List ℕ) (s : ℕ) → length low ≡ s → IsSizedBut s 3 (low ++ (3 ∷ n ∷ high)) → 4 < n → n ≤ 8
    → IsSized (low ++ (4 ∷ (n - 1) ∷ high))
sized_moved low n high s size r many most = sized_else low n (4 ∷ (n - 1) ∷ []) high s size r (omega arith) two
  where
    two : (k : ℕ) → k < 2 → MayOwn (length (low ++ (4 ∷ (n - 1) ∷ high))) (length low + k) (get_or (4 ∷ (n - 1) ∷ []) k 0)
    two zero w = let behind = r.behind in may_inner (length (low ++ (4 ∷ (n - 1) ∷ high))) (length low + 0) 4 (omega arith) (omega arith) (omega arith)
    two (suc zero) w = may_inner (length (low ++ (4 ∷ (n - 1) ∷ high))) (length low + 1) (n - 1) (omega arith) (omega arith) (omega arith)
    two (suc (suc k)) w = absurd (omega arith)

-- two slots become one
pub joins : {b0 b1 : List ℕ} {m : Mirror} {gs : List Group} {free : List ℕ} {s n : ℕ} → CanBalanceSlot b0 m gs free s
    → slice_index (group_sizes gs) (s + 1) ≡ n → n ≤ 4 → (o p : ℕ) → o ≡ slice_index m.slots s → p ≡ slice_index m.slots (s + 1)
    → Mirrors b1 (naming (owning (owning m o 0) p (n + 3)) (remove m.slots s)) → Regroups b1 m gs free (sizes_joined s n (group_sizes gs))
joins {b0} {b1} {m} {gs} {free} {s} {n} can next_size few o p o_is p_is r =
    let t = at_three can next_size in
    let z = sizes_at can t in
    let es = t.es in
    let bs = t.bs in
    let one : Group = record { front = t.f1; owner = t.o } in
    let two : Group = record { front = t.f2; owner = t.p } in
    let all : Group = record { front = t.f1 ++ t.o ∷ t.f2; owner = t.p } in
    let hs = es ++ all ∷ bs in
    let owned' = changed (changed m.owned t.o 0) t.p (n + 3) in
    let list : records gs ≡ (records es ++ t.f1) ++ (t.o ∷ t.f2 ++ t.p ∷ records bs) = ap records t.groups ∙ records_two es t.f1 t.o t.f2 t.p bs in
    let same : records hs ≡ records gs = records_one es t.f1 t.o t.f2 t.p bs ∙ sym list in
    let own = two_own m.owned es t.f1 t.o t.f2 t.p bs free 0 (n + 3) (rw list at can.page.order.once) in
    let size : length (t.f1 ++ t.o ∷ t.f2) + 1 ≡ n + 3 = omega (arith, length-append t.f1 (t.o ∷ t.f2), t.two, t.rest) in
    let slots : remove m.slots s ≡ owners hs =
    ap (λ (x : List ℕ). remove x s) (can.page.groups.slots ∙ ap owners t.groups)
    ∙ ap (λ (x : ℕ). remove (owners (es ++ one ∷ two ∷ bs)) x) (sym t.count) ∙ owners_joined es one two bs all refl in
    let result : sizes_joined s n (group_sizes gs) ≡ group_sizes es ++ ((n + 3) ∷ group_sizes bs) = rw (z.front, z.back) refl in
    let sizes_new : group_sizes hs ≡ group_sizes es ++ ((n + 3) ∷ group_sizes bs) = sizes_append es (all ∷ bs) ∙ rw size refl in
    let mirrored : Mirrors b1 (record m { owned = owned'; slots = owners hs }) =
    subst (λ (x : List ℕ). Mirrors b1 (record m { owned = owned'; slots = x })) slots
    (subst (λ (x : ℕ). Mirrors b1 (record m { owned = changed (changed m.owned t.o 0) x (n + 3); slots = remove m.slots s })) (p_is ∙ t.next_is)
    (subst (λ (x : ℕ). Mirrors b1 (record m { owned = changed (changed m.owned x 0) p (n + 3); slots = remove m.slots s })) (o_is ∙ t.owner_is) r)) in (
      owned',
      hs,
      record {
        page = record {
          is = mirrored;
          groups = record {
            slots = refl;
            owned = owned_joined m.owned owned' es t.f1 t.o t.f2 t.p bs (rw size own) (rw t.groups at can.page.groups.owned);
          };
          order = order_kept owned' (owners hs) same can.page.order;
        };
        same = same;
        sizes = sizes_new ∙ sym result;
        sized = rw result (sized_joined (group_sizes es) n (group_sizes bs) s z.count z.sizes z.some few);
      },
    )

-- the next slot's owner owns at most eight
pub next_most : {bytes : List ℕ} {m : Mirror} {gs : List Group} {free : List ℕ} {s n : ℕ} → CanBalanceSlot bytes m gs free s
    → slice_index (group_sizes gs) (s + 1) ≡ n → n ≤ 8
next_most can size = (sizes_at can (at_three can size)).most

choose_few : (n : ℕ) (x y : List ℕ) → n ≤ 4 → (if nat_le n 4 then x else y) ≡ x
choose_few n x y h = grind (arith, nat_tests)

choose_many : (n : ℕ) (x y : List ℕ) → 4 < n → (if nat_le n 4 then x else y) ≡ y
choose_many n x y h = grind (arith, nat_tests)

-- what balancing does to the sizes, by how many the next slot has
pub balanced_few : {b : List ℕ} {m : Mirror} {gs : List Group} {free : List ℕ} {n : ℕ} (s : ℕ) (ns : List ℕ) → slice_index ns (s + 1) ≡ n → n ≤ 4
    → Regroups b m gs free (sizes_joined s n ns) → Regroups b m gs free (sizes_balanced s ns)
balanced_few {b} {m} {gs} {free} {n} s ns size few r =
    let is : sizes_balanced s ns ≡ sizes_joined s n ns = rw size (choose_few n (sizes_joined s n ns) (sizes_moved s n ns) few) in
    subst (Regroups b m gs free) (sym is) r

pub balanced_many : {b : List ℕ} {m : Mirror} {gs : List Group} {free : List ℕ} {n : ℕ} (s : ℕ) (ns : List ℕ) → slice_index ns (s + 1) ≡ n → 4 < n
    → Regroups b m gs free (sizes_moved s n ns) → Regroups b m gs free (sizes_balanced s ns)
balanced_many {b} {m} {gs} {free} {n} s ns size many r =
    let is : sizes_balanced s ns ≡ sizes_moved s n ns = rw size (choose_many n (sizes_joined s n ns) (sizes_moved s n ns) many) in
    subst (Regroups b m gs free) (sym is) r
