-- A slot that becomes two.
use Rattle.std.proofs.Common.{◌≡◌, ℕ, zero, suc, ◌+◌, ◌-◌, ◌<◌, List, [], ◌∷◌, ◌++◌, length, get_or, slice_index, take, drop, insert, refl, sym, ap, subst, ◌∙◌, arith, length-append}
use Rattle.std.proofs.lemmas.List.{append_assoc, take_at, drop_at, get_or_append_left, get_or-append-add}
use Rattle.std.proofs.lemmas.Grind.{flat_map-append}
use Rattle.page_mirror.specs.Mirror.{Mirror, Mirrors, changed}
use Rattle.page_mirror.specs.Steps.{owning, naming}
use Rattle.page_directory.specs.Groups.{Group, members, records, owners, AreLinked, IsRecordList}
use Rattle.page_directory.specs.Sizes.{group_sizes, IsSized, IsSizedBut, MayOwn, sizes_split}
use Rattle.page_directory.specs.Calls.{CanSplitSlot, Regroups}
use Rattle.page_directory.proofs.ListLemmas.{cut_at, none_left, linked_right}
use Rattle.page_directory.proofs.GroupLemmas.{records_one, records_two, two_own, owned_cut, owners_cut}
use Rattle.page_directory.proofs.SizeLemmas.{sized_again, may_inner}
use Rattle.page_directory.proofs.OwnerLemmas.{owner_named, slots_counted, count_sizes, sizes_append, size_at}

-- the list stays where only slots and owned counts change
pub order_kept : {m : Mirror} {list list' free : List ℕ} (owned : ℕ → ℕ) (slots : List ℕ) → list' ≡ list → IsRecordList m list free
    → IsRecordList (record m { owned = owned; slots = slots }) list' free
order_kept owned slots same r = record {
  linked = rw same r.linked;
  once = rw same r.once;
  inside = rw same r.inside;
  rows = rw same r.rows;
}

-- four steps lead over three records
pub fourth_is : (next : ℕ → ℕ) (p : ℕ) (f1 : List ℕ) (q : ℕ) (rest : List ℕ) → length f1 ≡ 3 → AreLinked next (p ∷ (f1 ++ q ∷ rest))
    → next (next (next (next p))) ≡ q
fourth_is next p [] q rest three l = absurd (omega arith)
fourth_is next p (a ∷ []) q rest three l = absurd (omega arith)
fourth_is next p (a ∷ b ∷ []) q rest three l = absurd (omega arith)
fourth_is next p (a ∷ b ∷ c ∷ []) q rest three l =
    let to_c : next (next (next p)) ≡ c = ap (λ (x : ℕ). next (next x)) l.0 ∙ ap next l.1.0 ∙ l.1.1.0 in
    ap next to_c ∙ l.1.1.1.0
fourth_is next p (a ∷ b ∷ c ∷ d ∷ f) q rest three l = absurd (omega arith)

-- the group of nine, and the slot before it
pub record AtNine (m : Mirror) (gs : List Group) (s : ℕ) : Type 0 where
  pub es : List Group
  pub f1 : List ℕ
  pub q : ℕ
  pub f2 : List ℕ
  pub o : ℕ
  pub bs : List Group
  pub groups : gs ≡ es ++ record { front = f1 ++ q ∷ f2; owner = o } ∷ bs
  pub count : length es ≡ s
  pub three : length f1 ≡ 3
  pub four : length f2 ≡ 4
  pub owner_is : slice_index m.slots s ≡ o
  pub fourth : m.next (m.next (m.next (m.next (slice_index m.slots (s - 1))))) ≡ q

pub at_nine : {bytes : List ℕ} {m : Mirror} {gs : List Group} {free : List ℕ} {s : ℕ} → CanSplitSlot bytes m gs free s → AtNine m gs s
at_nine {bytes} {m} {gs} {free} {s} can =
    let low = can.sizes.behind in
    let within = can.sizes.within in
    let all = count_sizes gs in
    let in_groups : s < length gs = omega arith in
    let c = cut_at gs s in_groups in
    let g = c.here in
    let nine : length g.front + 1 ≡ 9 = sym (ap (λ (x : List Group). slice_index (group_sizes x) s) c.is ∙ size_at c.low g c.high s c.size) ∙ can.sizes.here in
    let in_front : 3 < length g.front = omega arith in
    let f = cut_at g.front 3 in_front in
    let size_front : length g.front ≡ length f.low + suc (length f.high) = ap length f.is ∙ length-append f.low (f.here ∷ f.high) in
    let cut_g : Group = record { front = f.low ++ f.here ∷ f.high; owner = g.owner } in
    let groups : gs ≡ c.low ++ cut_g ∷ c.high = c.is ∙ ap (λ (x : List ℕ). c.low ++ record { front = x; owner = g.owner } ∷ c.high) f.is in
    let before : s - 1 < length c.low = omega (arith, c.size) in
    let d = cut_at c.low (s - 1) before in
    let last = d.here in
    let size_low : length c.low ≡ length d.low + suc (length d.high) = ap length d.is ∙ length-append d.low (last ∷ d.high) in
    let none : d.high ≡ [] = none_left d.high (omega (arith, c.size, d.size)) in
    let low_is : c.low ≡ d.low ++ last ∷ [] = d.is ∙ ap (λ (x : List Group). d.low ++ last ∷ x) none in
    let all_groups : gs ≡ d.low ++ last ∷ cut_g ∷ c.high = groups ∙ ap (λ (x : List Group). x ++ cut_g ∷ c.high) low_is ∙ append_assoc d.low (last ∷ []) (cut_g ∷ c.high) in
    let tail = f.high ++ g.owner ∷ records c.high in
    let list : records gs ≡ (records d.low ++ last.front) ++ (last.owner ∷ (f.low ++ f.here ∷ tail)) =
    ap records all_groups ∙ flat_map-append members d.low (last ∷ cut_g ∷ c.high) ∙ simp append_assoc in
    let linked : AreLinked m.next ((records d.low ++ last.front) ++ (last.owner ∷ (f.low ++ f.here ∷ tail))) = rw list at can.page.order.linked in
    let links = linked_right m.next (records d.low ++ last.front) (last.owner ∷ (f.low ++ f.here ∷ tail)) linked in
    let named_last : slice_index m.slots (s - 1) ≡ last.owner = owner_named m.slots d.low last (cut_g ∷ c.high) (s - 1) (can.page.groups.slots ∙ ap owners all_groups) d.size in
    record {
      es = c.low;
      f1 = f.low;
      q = f.here;
      f2 = f.high;
      o = g.owner;
      bs = c.high;
      groups = groups;
      count = c.size;
      three = f.size;
      four = omega (arith, f.size);
      owner_is = owner_named m.slots c.low g c.high s (can.page.groups.slots ∙ ap owners c.is) c.size;
      fourth = ap (λ (x : ℕ). m.next (m.next (m.next (m.next x)))) named_last ∙ fourth_is m.next last.owner f.low f.here tail f.size links;
    }

-- the owners own as many as they may, with four and five in place of nine
sized_split : (low : List ℕ) (n : ℕ) (high : List ℕ) (s : ℕ) → length low ≡ s → IsSizedBut s n (low ++ n ∷ high) → IsSized (low ++ 4 ∷ 5 ∷ high)
sized_split low n high s size r =
    let behind = r.behind in
    let all = length-append low (n ∷ high) in
    sized_again low (n ∷ []) (4 ∷ 5 ∷ []) high (omega arith) (omega arith)
    (λ k w. rw (← get_or_append_left low (n ∷ high) 0 k w) (r.others k (omega arith) (λ e. omega arith)))
    (omega arith)
    (λ k w. two k w)
    (λ k w.
    let up : length low + 1 + k ≡ length low + suc k = omega arith in
    rw (up, ← get_or-append-add low (n ∷ high) (suc k) 0) (r.others (length low + suc k) (omega arith) (λ e. omega arith)))
  where
    two : (k : ℕ) → k < 2 → MayOwn (length (low ++ 4 ∷ 5 ∷ high)) (length low + k) (get_or (4 ∷ 5 ∷ []) k 0)
    two zero w = let behind = r.behind in may_inner (length (low ++ 4 ∷ 5 ∷ high)) (length low + 0) 4 (omega arith) (omega arith) (omega arith)
    two (suc zero) w = may_inner (length (low ++ 4 ∷ 5 ∷ high)) (length low + 1) 5 (omega arith) (omega arith) (omega arith)
    two (suc (suc k)) w = absurd (omega arith)

-- the slots and owned counts after the split
pub splits : {b0 b1 : List ℕ} {m : Mirror} {gs : List Group} {free : List ℕ} {s : ℕ} → CanSplitSlot b0 m gs free s
    → (q o : ℕ) → q ≡ m.next (m.next (m.next (m.next (slice_index m.slots (s - 1))))) → o ≡ slice_index m.slots s
    → Mirrors b1 (naming (owning (owning m q 4) o 5) (insert m.slots s q)) → Regroups b1 m gs free (sizes_split s (group_sizes gs))
splits {b0} {b1} {m} {gs} {free} {s} can q o q_is o_is r =
    let n = at_nine can in
    let es = n.es in
    let bs = n.bs in
    let nine : Group = record { front = n.f1 ++ n.q ∷ n.f2; owner = n.o } in
    let four : Group = record { front = n.f1; owner = n.q } in
    let five : Group = record { front = n.f2; owner = n.o } in
    let hs = es ++ four ∷ five ∷ bs in
    let owned' = changed (changed m.owned n.q 4) n.o 5 in
    let three = n.three in
    let four_is = n.four in
    let list : records gs ≡ (records es ++ n.f1) ++ (n.q ∷ n.f2 ++ n.o ∷ records bs) = ap records n.groups ∙ records_one es n.f1 n.q n.f2 n.o bs in
    let same : records hs ≡ records gs = records_two es n.f1 n.q n.f2 n.o bs ∙ sym list in
    let own = two_own m.owned es n.f1 n.q n.f2 n.o bs free 4 5 (rw list at can.page.order.once) in
    let x_is : length n.f1 + 1 ≡ 4 = omega arith in
    let y_is : length n.f2 + 1 ≡ 5 = omega arith in
    let slots : insert m.slots s n.q ≡ owners hs =
    ap (λ (x : List ℕ). insert x s n.q) (can.page.groups.slots ∙ ap owners n.groups)
    ∙ ap (λ (x : ℕ). insert (owners (es ++ nine ∷ bs)) x n.q) (sym n.count) ∙ owners_cut es four five bs nine refl in
    let sizes_old : group_sizes gs ≡ group_sizes es ++ 9 ∷ group_sizes bs =
    ap group_sizes n.groups ∙ sizes_append es (nine ∷ bs) ∙ ap (λ (x : ℕ). group_sizes es ++ x ∷ group_sizes bs) (omega (arith, length-append n.f1 (n.q ∷ n.f2))) in
    let sizes_new : group_sizes hs ≡ group_sizes es ++ 4 ∷ 5 ∷ group_sizes bs = sizes_append es (four ∷ five ∷ bs) ∙ rw (x_is, y_is) refl in
    let size_es : length (group_sizes es) ≡ s = count_sizes es ∙ n.count in
    let cut : group_sizes es ++ 9 ∷ group_sizes bs ≡ (group_sizes es ++ 9 ∷ []) ++ group_sizes bs = sym (append_assoc (group_sizes es) (9 ∷ []) (group_sizes bs)) in
    let front : take s (group_sizes gs) ≡ group_sizes es = ap (take s) sizes_old ∙ take_at (group_sizes es) (9 ∷ group_sizes bs) s size_es in
    let back : drop (s + 1) (group_sizes gs) ≡ group_sizes bs =
    ap (drop (s + 1)) (sizes_old ∙ cut) ∙ drop_at (group_sizes es ++ 9 ∷ []) (group_sizes bs) (s + 1) (length-append (group_sizes es) (9 ∷ []) ∙ omega (arith, size_es)) in
    let result : sizes_split s (group_sizes gs) ≡ group_sizes es ++ 4 ∷ 5 ∷ group_sizes bs = rw (front, back) refl in
    let mirrored : Mirrors b1 (record m { owned = owned'; slots = owners hs }) =
    subst (λ (x : List ℕ). Mirrors b1 (record m { owned = owned'; slots = x })) slots
    (subst (λ (x : ℕ). Mirrors b1 (record m { owned = changed (changed m.owned n.q 4) x 5; slots = insert m.slots s n.q })) (o_is ∙ n.owner_is)
    (subst (λ (x : ℕ). Mirrors b1 (record m { owned = changed (changed m.owned x 4) o 5; slots = insert m.slots s x })) (q_is ∙ n.fourth) r)) in (
      owned',
      hs,
      record {
        page = record {
          is = mirrored;
          groups = record {
            slots = refl;
            owned = owned_cut m.owned owned' es n.f1 n.q n.f2 n.o bs (rw (x_is, y_is) own) (rw n.groups at can.page.groups.owned);
          };
          order = order_kept owned' (owners hs) same can.page.order;
        };
        same = same;
        sizes = sizes_new ∙ sym result;
        sized = rw result (sized_split (group_sizes es) 9 (group_sizes bs) s size_es (rw sizes_old at can.sizes));
      },
    )

-- the slot and the one before it are among the slots
pub in_slots : {bytes : List ℕ} {m : Mirror} {gs : List Group} {free : List ℕ} {s : ℕ} → CanSplitSlot bytes m gs free s → s < length m.slots
in_slots {gs = gs} can =
    let within = can.sizes.within in
    omega (arith, slots_counted can.page.groups, count_sizes gs)

pub last_in_slots : {bytes : List ℕ} {m : Mirror} {gs : List Group} {free : List ℕ} {s : ℕ} → CanSplitSlot bytes m gs free s → s - 1 < length m.slots
last_in_slots can =
    let within = in_slots can in
    omega (arith, within)
