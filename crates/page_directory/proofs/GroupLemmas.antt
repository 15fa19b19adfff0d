-- Groups that are cut in two, or joined, and who owns their records then.
use Rattle.std.proofs.Common.{◌≡◌, ℕ, suc, ◌+◌, ◌≤◌, List, [], ◌∷◌, ◌++◌, length, nat_eq, count_by, take, drop, insert, set, refl, sym, ◌∙◌, arith, length-append}
use Rattle.std.proofs.lemmas.List.{append_assoc, map-append, length-map, take_at, drop_at, set_at}
use Rattle.std.proofs.lemmas.Grind.{flat_map-append}
use Rattle.std.specs.List.{AllByRecursion, remove}
use Rattle.list_facts.proofs.Each.{each_left, each_right, each_append, each_both}
use Rattle.page_mirror.specs.Mirror.{changed}
use Rattle.page_mirror.proofs.KeptLemmas.{changed-same, changed-other}
use Rattle.page_directory.specs.Groups.{Group, members, records, owners, IsOwned}
use Rattle.page_directory.proofs.ListLemmas.{counted_apart}

-- the records of one group with q in its front, and of the two groups cut there
pub records_one : (es : List Group) (f1 : List ℕ) (q : ℕ) (f2 : List ℕ) (o : ℕ) (bs : List Group)
    → records (es ++ record { front = f1 ++ q ∷ f2; owner = o } ∷ bs) ≡ (records es ++ f1) ++ (q ∷ f2 ++ o ∷ records bs)
records_one es f1 q f2 o bs =
    flat_map-append members es (record { front = f1 ++ q ∷ f2; owner = o } ∷ bs) ∙ simp append_assoc

pub records_two : (es : List Group) (f1 : List ℕ) (q : ℕ) (f2 : List ℕ) (o : ℕ) (bs : List Group)
    → records (es ++ record { front = f1; owner = q } ∷ record { front = f2; owner = o } ∷ bs) ≡ (records es ++ f1) ++ (q ∷ f2 ++ o ∷ records bs)
records_two es f1 q f2 o bs =
    flat_map-append members es (record { front = f1; owner = q } ∷ record { front = f2; owner = o } ∷ bs) ∙ simp append_assoc

-- groups of which no record changes its count
pub groups_kept : (owned owned' : ℕ → ℕ) (gs : List Group) → AllByRecursion (λ h. owned' h ≡ owned h) (records gs)
    → AllByRecursion (IsOwned owned) gs → AllByRecursion (IsOwned owned') gs
groups_kept owned owned' [] same a = tt
groups_kept owned owned' (g ∷ gs) same a =
    let mine = each_left (λ h. owned' h ≡ owned h) (members g) (records gs) same in (
      record {
        owner = (each_right (λ h. owned' h ≡ owned h) g.front (g.owner ∷ []) mine).0 ∙ a.0.owner;
        front = each_both (λ h. owned' h ≡ owned h) (λ h. owned h ≡ 0) (λ h. owned' h ≡ 0) (λ h s z. s ∙ z) g.front
            (each_left (λ h. owned' h ≡ owned h) g.front (g.owner ∷ []) mine) a.0.front;
      },
      groups_kept owned owned' gs (each_right (λ h. owned' h ≡ owned h) (members g) (records gs) same) a.1,
    )

-- of the records of two groups only the owners q and o change their counts, to x and y
pub record TwoOwn (owned owned' : ℕ → ℕ) (es : List Group) (f1 : List ℕ) (q : ℕ) (f2 : List ℕ) (o : ℕ) (bs : List Group) (x y : ℕ) : Type 0 where
  pub at_q : owned' q ≡ x
  pub at_o : owned' o ≡ y
  pub early : AllByRecursion (λ h. owned' h ≡ owned h) (records es)
  pub first : AllByRecursion (λ h. owned' h ≡ owned h) f1
  pub second : AllByRecursion (λ h. owned' h ≡ owned h) f2
  pub late : AllByRecursion (λ h. owned' h ≡ owned h) (records bs)

pub two_own : (owned : ℕ → ℕ) (es : List Group) (f1 : List ℕ) (q : ℕ) (f2 : List ℕ) (o : ℕ) (bs : List Group) (free : List ℕ) (x y : ℕ)
    → ((h : ℕ) → count_by (λ k. nat_eq k h) (((records es ++ f1) ++ (q ∷ f2 ++ o ∷ records bs)) ++ free) ≤ 1)
    → TwoOwn owned (changed (changed owned q x) o y) es f1 q f2 o bs x y
two_own owned es f1 q f2 o bs free x y once =
    let z1 = records es ++ f1 in
    let late = records bs in
    let at_q : (z1 ++ (q ∷ f2 ++ o ∷ late)) ++ free ≡ z1 ++ q ∷ ((f2 ++ o ∷ late) ++ free) = simp append_assoc in
    let at_o : (z1 ++ (q ∷ f2 ++ o ∷ late)) ++ free ≡ (z1 ++ q ∷ f2) ++ o ∷ (late ++ free) = simp append_assoc in
    let from_q = counted_apart q z1 ((f2 ++ o ∷ late) ++ free) (rw (← at_q) (once q)) in
    let from_o = counted_apart o (z1 ++ q ∷ f2) (late ++ free) (rw (← at_o) (once o)) in
    let not_q : ℕ → Type 0 = λ h. h ≡ q → ⊥ in
    let not_o : ℕ → Type 0 = λ h. h ≡ o → ⊥ in
    let same : (zs : List ℕ) → AllByRecursion not_o zs → AllByRecursion not_q zs → AllByRecursion (λ h. changed (changed owned q x) o y h ≡ owned h) zs =
    each_both not_o not_q (λ h. changed (changed owned q x) o y h ≡ owned h)
    (λ h a b. changed-other (changed owned q x) o y h a ∙ changed-other owned q x h b) in
    let z1_o = each_left not_o z1 (q ∷ f2) from_o.0 in
    let qf2_o = each_right not_o z1 (q ∷ f2) from_o.0 in
    let end_q = each_left not_q (f2 ++ o ∷ late) free from_q.1 in
    record {
      at_q = changed-other (changed owned q x) o y q qf2_o.0 ∙ changed-same owned q x;
      at_o = changed-same (changed owned q x) o y;
      early = same (records es) (each_left not_o (records es) f1 z1_o) (each_left not_q (records es) f1 from_q.0);
      first = same f1 (each_right not_o (records es) f1 z1_o) (each_right not_q (records es) f1 from_q.0);
      second = same f2 qf2_o.1 (each_left not_q f2 (o ∷ late) end_q);
      late = same late (each_left not_o late free from_o.1) (each_right not_q f2 (o ∷ late) end_q).1;
    }

-- numbers that stay zero
zeros_kept : (owned owned' : ℕ → ℕ) (zs : List ℕ) → AllByRecursion (λ h. owned' h ≡ owned h) zs → AllByRecursion (λ h. owned h ≡ 0) zs
    → AllByRecursion (λ h. owned' h ≡ 0) zs
zeros_kept owned owned' zs = each_both (λ h. owned' h ≡ owned h) (λ h. owned h ≡ 0) (λ h. owned' h ≡ 0) (λ h s z. s ∙ z) zs

-- one group becomes two
pub owned_cut : (owned owned' : ℕ → ℕ) (es : List Group) (f1 : List ℕ) (q : ℕ) (f2 : List ℕ) (o : ℕ) (bs : List Group)
    → TwoOwn owned owned' es f1 q f2 o bs (length f1 + 1) (length f2 + 1)
    → AllByRecursion (IsOwned owned) (es ++ record { front = f1 ++ q ∷ f2; owner = o } ∷ bs)
    → AllByRecursion (IsOwned owned') (es ++ record { front = f1; owner = q } ∷ record { front = f2; owner = o } ∷ bs)
owned_cut owned owned' es f1 q f2 o bs t a =
    let old : Group = record { front = f1 ++ q ∷ f2; owner = o } in
    let rest = each_right (IsOwned owned) es (old ∷ bs) a in
    let front = rest.0.front in
    each_append (IsOwned owned') es (record { front = f1; owner = q } ∷ record { front = f2; owner = o } ∷ bs)
    (groups_kept owned owned' es t.early (each_left (IsOwned owned) es (old ∷ bs) a)) (
      record { owner = t.at_q; front = zeros_kept owned owned' f1 t.first (each_left (λ h. owned h ≡ 0) f1 (q ∷ f2) front) },
      (
        record { owner = t.at_o; front = zeros_kept owned owned' f2 t.second (each_right (λ h. owned h ≡ 0) f1 (q ∷ f2) front).1 },
        groups_kept owned owned' bs t.late rest.1,
      ),
    )

-- two groups become one
pub owned_joined : (owned owned' : ℕ → ℕ) (es : List Group) (f1 : List ℕ) (q : ℕ) (f2 : List ℕ) (o : ℕ) (bs : List Group)
    → TwoOwn owned owned' es f1 q f2 o bs 0 (length (f1 ++ q ∷ f2) + 1)
    → AllByRecursion (IsOwned owned) (es ++ record { front = f1; owner = q } ∷ record { front = f2; owner = o } ∷ bs)
    → AllByRecursion (IsOwned owned') (es ++ record { front = f1 ++ q ∷ f2; owner = o } ∷ bs)
owned_joined owned owned' es f1 q f2 o bs t a =
    let one : Group = record { front = f1; owner = q } in
    let two : Group = record { front = f2; owner = o } in
    let rest = each_right (IsOwned owned) es (one ∷ two ∷ bs) a in
    each_append (IsOwned owned') es (record { front = f1 ++ q ∷ f2; owner = o } ∷ bs)
    (groups_kept owned owned' es t.early (each_left (IsOwned owned) es (one ∷ two ∷ bs) a)) (
      record {
        owner = t.at_o;
        front = each_append (λ h. owned' h ≡ 0) f1 (q ∷ f2) (zeros_kept owned owned' f1 t.first rest.0.front)
            (t.at_q, zeros_kept owned owned' f2 t.second rest.1.0.front);
      },
      groups_kept owned owned' bs t.late rest.1.1,
    )

-- the slots of the groups, one more, one less and with another name
pub owners_append : (es bs : List Group) → owners (es ++ bs) ≡ owners es ++ owners bs
owners_append es bs = map-append (λ (g : Group). g.owner) es bs

pub count_owners : (gs : List Group) → length (owners gs) ≡ length gs
count_owners gs = length-map gs (λ (g : Group). g.owner)

pub owners_cut : (es : List Group) (g h : Group) (bs : List Group) (k : Group) → k.owner ≡ h.owner
    → insert (owners (es ++ k ∷ bs)) (length es) g.owner ≡ owners (es ++ g ∷ h ∷ bs)
owners_cut es g h bs k e =
    rw (owners_append es (k ∷ bs), take_at (owners es) (owners (k ∷ bs)) (length es) (count_owners es), drop_at (owners es) (owners (k ∷ bs)) (length es) (count_owners es), e)
    (sym (owners_append es (g ∷ h ∷ bs)))

pub owners_joined : (es : List Group) (g h : Group) (bs : List Group) (k : Group) → k.owner ≡ h.owner
    → remove (owners (es ++ g ∷ h ∷ bs)) (length es) ≡ owners (es ++ k ∷ bs)
owners_joined es g h bs k e =
    let cut : owners (es ++ g ∷ h ∷ bs) ≡ (owners es ++ g.owner ∷ []) ++ owners (h ∷ bs) = owners_append es (g ∷ h ∷ bs) ∙ sym (append_assoc (owners es) (g.owner ∷ []) (owners (h ∷ bs))) in
    let size : length (owners es ++ g.owner ∷ []) ≡ suc (length es) = length-append (owners es) (g.owner ∷ []) ∙ omega (arith, count_owners es) in
    let front : take (length es) (owners (es ++ g ∷ h ∷ bs)) ≡ owners es = rw (owners_append es (g ∷ h ∷ bs)) (take_at (owners es) (owners (g ∷ h ∷ bs)) (length es) (count_owners es)) in
    let back : drop (suc (length es)) (owners (es ++ g ∷ h ∷ bs)) ≡ owners (h ∷ bs) = rw cut (drop_at (owners es ++ g.owner ∷ []) (owners (h ∷ bs)) (suc (length es)) size) in
    rw (front, back, owners_append es (k ∷ bs), e) refl

pub owners_moved : (es : List Group) (g g' h h' : Group) (bs : List Group) → h'.owner ≡ h.owner
    → set (owners (es ++ g ∷ h ∷ bs)) (length es) g'.owner ≡ owners (es ++ g' ∷ h' ∷ bs)
owners_moved es g g' h h' bs e =
    rw (owners_append es (g ∷ h ∷ bs), set_at (owners es) g.owner (owners (h ∷ bs)) g'.owner (length es) (count_owners es), owners_append es (g' ∷ h' ∷ bs), e) refl
