-- A slot that gets a record of the next one.
use Rattle.std.proofs.Common.{◌≡◌, ℕ, ◌+◌, ◌-◌, ◌<◌, ◌≤◌, List, [], ◌∷◌, ◌++◌, length, slice_index, set, nat_eq, count_by, refl, sym, ap, subst, ◌∙◌, arith, length-append, inl, inr}
use Rattle.std.proofs.lemmas.List.{append_assoc}
use Rattle.std.proofs.lemmas.Bool.{cases_eq}
use Rattle.std.specs.List.{AllByRecursion}
use Rattle.list_facts.proofs.Each.{each_all}
use Rattle.page_mirror.specs.Mirror.{Mirror, Mirrors, changed}
use Rattle.page_mirror.specs.Steps.{owning, naming}
use Rattle.page_mirror.proofs.KeptLemmas.{changed-same, changed-other}
use Rattle.page_directory.specs.Groups.{Group, records, owners, AreLinked, IsOwned}
use Rattle.page_directory.specs.Sizes.{group_sizes, sizes_moved}
use Rattle.page_directory.specs.Calls.{CanBalanceSlot, Regroups}
use Rattle.page_directory.proofs.GroupLemmas.{records_two, two_own, groups_kept, owned_cut, owned_joined, owners_moved}
use Rattle.page_directory.proofs.OwnerLemmas.{sizes_append}
use Rattle.page_directory.proofs.SplitLemmas.{order_kept}
use Rattle.page_directory.proofs.BalanceLemmas.{at_three, sizes_at, sized_moved}

-- a count that is set twice
changed_twice : (f : ℕ → ℕ) (p a q b d : ℕ) (h : ℕ) → changed (changed f q b) p d h ≡ changed (changed (changed f p a) q b) p d h
changed_twice f p a q b d h = elim (cases_eq h p) [
  | inl is ↦ rw is (changed-same (changed f q b) p d ∙ sym (changed-same (changed (changed f p a) q b) p d))
  | inr other ↦
      changed-other (changed f q b) p d h other ∙ inner other ∙ sym (changed-other (changed (changed f p a) q b) p d h other)
]
  where
    inner : (h ≡ p → ⊥) → changed f q b h ≡ changed (changed f p a) q b h
    inner other = elim (cases_eq h q) [
      | inl is ↦ rw is (changed-same f q b ∙ sym (changed-same (changed f p a) q b))
      | inr apart ↦ changed-other f q b h apart ∙ sym (changed-other f p a h other) ∙ sym (changed-other (changed f p a) q b h apart)
    ]

-- the first of the next slot's records becomes the owner of this one
owned_moved : (owned : ℕ → ℕ) (es : List Group) (f1 : List ℕ) (o q : ℕ) (ys : List ℕ) (p : ℕ) (bs : List Group) (free : List ℕ) (a b : ℕ)
    → ((h : ℕ) → count_by (λ k. nat_eq k h) (((records es ++ f1) ++ (o ∷ (q ∷ ys) ++ p ∷ records bs)) ++ free) ≤ 1)
    → length f1 + 2 ≡ a → length ys + 1 ≡ b
    → AllByRecursion (IsOwned owned) (es ++ record { front = f1; owner = o } ∷ record { front = q ∷ ys; owner = p } ∷ bs)
    → AllByRecursion (IsOwned (changed (changed (changed owned o 0) q a) p b)) (es ++ record { front = f1 ++ o ∷ []; owner = q } ∷ record { front = ys; owner = p } ∷ bs)
owned_moved owned es f1 o q ys p bs free a b once a_is b_is groups =
    let whole = length (f1 ++ o ∷ q ∷ ys) + 1 in
    let joined : ℕ → ℕ = changed (changed owned o 0) p whole in
    let both : AllByRecursion (IsOwned joined) (es ++ record { front = f1 ++ o ∷ q ∷ ys; owner = p } ∷ bs) =
    owned_joined owned joined es f1 o (q ∷ ys) p bs (two_own owned es f1 o (q ∷ ys) p bs free 0 whole once) groups in
    let shape : f1 ++ o ∷ q ∷ ys ≡ (f1 ++ o ∷ []) ++ q ∷ ys = sym (append_assoc f1 (o ∷ []) (q ∷ ys)) in
    let both' : AllByRecursion (IsOwned joined) (es ++ record { front = (f1 ++ o ∷ []) ++ q ∷ ys; owner = p } ∷ bs) =
    subst (λ (x : List ℕ). AllByRecursion (IsOwned joined) (es ++ record { front = x; owner = p } ∷ bs)) shape both in
    let list : (records es ++ f1) ++ (o ∷ (q ∷ ys) ++ p ∷ records bs) ≡ (records es ++ (f1 ++ o ∷ [])) ++ (q ∷ ys ++ p ∷ records bs) = simp append_assoc in
    let once' : (h : ℕ) → count_by (λ k. nat_eq k h) (((records es ++ (f1 ++ o ∷ [])) ++ (q ∷ ys ++ p ∷ records bs)) ++ free) ≤ 1 = rw list at once in
    let front_is : length (f1 ++ o ∷ []) + 1 ≡ a = omega (arith, length-append f1 (o ∷ [])) in
    let cut = two_own joined es (f1 ++ o ∷ []) q ys p bs free a b once' in
    let halves = owned_cut joined (changed (changed joined q a) p b) es (f1 ++ o ∷ []) q ys p bs (rw (front_is, b_is) cut) both' in
    let hs : List Group = es ++ record { front = f1 ++ o ∷ []; owner = q } ∷ record { front = ys; owner = p } ∷ bs in
    groups_kept (changed (changed joined q a) p b) (changed (changed (changed owned o 0) q a) p b) hs
    (each_all (λ h. changed (changed (changed owned o 0) q a) p b h ≡ changed (changed joined q a) p b h) (changed_twice (changed owned o 0) p whole q a b) (records hs)) halves

-- the first of some numbers
first_there : (xs : List ℕ) → 0 < length xs → (x : ℕ) × (ys : List ℕ) × (xs ≡ x ∷ ys)
first_there [] some = absurd (omega arith)
first_there (x ∷ xs) some = (x, xs, refl)

-- one record goes to the slot before
pub moves : {b0 b1 : List ℕ} {m : Mirror} {gs : List Group} {free : List ℕ} {s n : ℕ} → CanBalanceSlot b0 m gs free s
    → slice_index (group_sizes gs) (s + 1) ≡ n → 4 < n → (o q p : ℕ) → o ≡ slice_index m.slots s → q ≡ m.next (slice_index m.slots s) → p ≡ slice_index m.slots (s + 1)
    → Mirrors b1 (naming (owning (owning (owning m o 0) q 4) p (n - 1)) (set m.slots s q)) → Regroups b1 m gs free (sizes_moved s n (group_sizes gs))
moves {b0} {b1} {m} {gs} {free} {s} {n} can next_size many o q p o_is q_is p_is r =
    let t = at_three can next_size in
    let z = sizes_at can t in
    let es = t.es in
    let bs = t.bs in
    let some : 0 < length t.f2 = omega (arith, t.rest) in
    let first = first_there t.f2 some in
    let x = first.0 in
    let ys = first.1 in
    let one : Group = record { front = t.f1; owner = t.o } in
    let two : Group = record { front = x ∷ ys; owner = t.p } in
    let one' : Group = record { front = t.f1 ++ t.o ∷ []; owner = x } in
    let two' : Group = record { front = ys; owner = t.p } in
    let hs = es ++ one' ∷ two' ∷ bs in
    let owned' = changed (changed (changed m.owned t.o 0) x 4) t.p (n - 1) in
    let groups : gs ≡ es ++ one ∷ two ∷ bs = t.groups ∙ ap (λ (f : List ℕ). es ++ one ∷ record { front = f; owner = t.p } ∷ bs) first.2 in
    let links : AreLinked m.next (t.o ∷ ((x ∷ ys) ++ t.p ∷ records bs)) = rw first.2 at t.links in
    let list : records gs ≡ (records es ++ t.f1) ++ (t.o ∷ (x ∷ ys) ++ t.p ∷ records bs) = ap records groups ∙ records_two es t.f1 t.o (x ∷ ys) t.p bs in
    let shape : (records es ++ (t.f1 ++ t.o ∷ [])) ++ (x ∷ ys ++ t.p ∷ records bs) ≡ (records es ++ t.f1) ++ (t.o ∷ (x ∷ ys) ++ t.p ∷ records bs) = simp append_assoc in
    let same : records hs ≡ records gs = records_two es (t.f1 ++ t.o ∷ []) x ys t.p bs ∙ shape ∙ sym list in
    let front_is : length t.f1 + 2 ≡ 4 = omega (arith, t.two) in
    let rest_is : length ys + 1 ≡ n - 1 = omega (arith, t.rest, ap length first.2) in
    let size_one : length (t.f1 ++ t.o ∷ []) + 1 ≡ 4 = omega (arith, length-append t.f1 (t.o ∷ []), t.two) in
    let slots : set m.slots s x ≡ owners hs =
    ap (λ (l : List ℕ). set l s x) (can.page.groups.slots ∙ ap owners groups)
    ∙ ap (λ (k : ℕ). set (owners (es ++ one ∷ two ∷ bs)) k x) (sym t.count) ∙ owners_moved es one one' two two' bs refl in
    let result : sizes_moved s n (group_sizes gs) ≡ group_sizes es ++ (4 ∷ (n - 1) ∷ group_sizes bs) = rw (z.front, z.back) refl in
    let sizes_new : group_sizes hs ≡ group_sizes es ++ (4 ∷ (n - 1) ∷ group_sizes bs) = sizes_append es (one' ∷ two' ∷ bs) ∙ rw (size_one, rest_is) refl in
    let q_here : q ≡ x = q_is ∙ ap m.next t.owner_is ∙ links.0 in
    let mirrored : Mirrors b1 (record m { owned = owned'; slots = owners hs }) =
    subst (λ (l : List ℕ). Mirrors b1 (record m { owned = owned'; slots = l })) slots
    (subst (λ (k : ℕ). Mirrors b1 (record m { owned = changed (changed (changed m.owned t.o 0) x 4) k (n - 1); slots = set m.slots s x })) (p_is ∙ t.next_is)
    (subst (λ (k : ℕ). Mirrors b1 (record m { owned = changed (changed (changed m.owned t.o 0) k 4) p (n - 1); slots = set m.slots s k })) q_here
    (subst (λ (k : ℕ). Mirrors b1 (record m { owned = changed (changed (changed m.owned k 0) q 4) p (n - 1); slots = set m.slots s q })) (o_is ∙ t.owner_is) r))) in (
      owned',
      hs,
      record {
        page = record {
          is = mirrored;
          groups = record {
            slots = refl;
            owned = owned_moved m.owned es t.f1 t.o x ys t.p bs free 4 (n - 1) (rw list at can.page.order.once) front_is rest_is (rw groups at can.page.groups.owned);
          };
          order = order_kept owned' (owners hs) same can.page.order;
        };
        same = same;
        sizes = sizes_new ∙ sym result;
        sized = rw result (sized_moved (group_sizes es) n (group_sizes bs) s z.count z.sizes many z.most);
      },
    )
