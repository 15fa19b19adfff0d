-- The slot in which a record comes, and its size then.
use Rattle.std.proofs.Common.{◌≡◌, ℕ, zero, suc, ◌+◌, ◌<◌, ◌≤◌, List, [], ◌∷◌, ◌++◌, length, get_or, slice_index, refl, sym, ap, subst, ◌∙◌, arith, length-append, inl, inr}
use Rattle.std.proofs.lemmas.List.{append_assoc, get_or_at}
use Rattle.std.proofs.lemmas.Bool.{cases_eq}
use Rattle.std.specs.List.{AllByRecursion}
use Rattle.list_facts.proofs.Each.{each_right}
use Rattle.page_mirror.specs.Mirror.{Mirror}
use Rattle.page_mirror.specs.Steps.{HasOrigin}
use Rattle.page_directory.specs.Groups.{Group, records, owners, IsOwned, HasGroups}
use Rattle.page_directory.specs.Sizes.{group_sizes, IsSized, IsSizedBut, MayOwn}
use Rattle.page_directory.specs.Owners.{IsRecordOf, IsOwnerOf}
use Rattle.page_directory.specs.Calls.{CanSplitSlot, Regroups}
use Rattle.page_directory.proofs.OwnerLemmas.{owner_named, sizes_append, count_sizes, size_at}
use Rattle.page_list.specs.Entering.{Gap, HasGap, CanEnter, Enters, GapGroup, IsGapOf, IsLinkedIn, groups_with, owned_with, linked_in}
use Rattle.page_list.proofs.EnterLemmas.{at_gap}

-- another number at a place leaves those beside it
pub same_beside : (xs ys : List ℕ) (a b j : ℕ) → (j ≡ length xs → ⊥) → get_or (xs ++ a ∷ ys) j 0 ≡ get_or (xs ++ b ∷ ys) j 0
same_beside [] ys a b zero other = absurd (other refl)
same_beside [] ys a b (suc j) other = refl
same_beside (x ∷ xs) ys a b zero other = refl
same_beside (x ∷ xs) ys a b (suc j) other = same_beside xs ys a b j (λ e. other (ap suc e))

-- a slot that isn't the first and has less than eight may have one more
sized_one_more : (xs ys : List ℕ) (k : ℕ) → IsSized (xs ++ k ∷ ys) → 1 ≤ length xs → k < 8 → IsSized (xs ++ (k + 1) ∷ ys)
sized_one_more xs ys k r low few =
    let size : length (xs ++ (k + 1) ∷ ys) ≡ length (xs ++ k ∷ ys) = length-append xs ((k + 1) ∷ ys) ∙ sym (length-append xs (k ∷ ys)) in
    record {
      two = rw size r.two;
      each = λ s w. elim (cases_eq s (length xs)) [
        | inl is ↦
            let within : s < length (xs ++ k ∷ ys) = rw (← size) w in
            let old : MayOwn (length (xs ++ k ∷ ys)) s k = subst (MayOwn (length (xs ++ k ∷ ys)) s) (get_or_at xs k ys 0 s (sym is)) (r.each s within) in
            rw (get_or_at xs (k + 1) ys 0 s (sym is), size) (record {
              alone = λ e. absurd (omega arith);
              some = omega arith;
              most = omega arith;
              least = λ b i. let least = old.least b i in omega arith;
            })
        | inr other ↦ rw (← same_beside xs ys k (k + 1) s other, size) (r.each s (rw (← size) w))
      ];
    }

-- and with eight it has too many by one
sized_but_nine : (xs ys : List ℕ) (s : ℕ) → IsSized (xs ++ 8 ∷ ys) → 1 ≤ length xs → length xs ≡ s → IsSizedBut s 9 (xs ++ 9 ∷ ys)
sized_but_nine xs ys s r low is =
    let size : length (xs ++ 9 ∷ ys) ≡ length (xs ++ 8 ∷ ys) = length-append xs (9 ∷ ys) ∙ sym (length-append xs (8 ∷ ys)) in
    record {
      behind = omega arith;
      within = omega (arith, length-append xs (9 ∷ ys));
      here = get_or_at xs 9 ys 0 s is;
      others = λ k w other. rw (← same_beside xs ys 8 9 k (λ e. other (e ∙ is)), size) (r.each k (rw (← size) w));
    }

-- the record behind a gap isn't of the first slot
pub record AtGroup (bytes : List ℕ) (m : Mirror) (gs : List Group) (free : List ℕ) (g : Gap) (w : GapGroup gs g) : Type 0 where
  pub behind : 1 ≤ length w.early
  pub few : length (w.low ++ w.rest) + 1 ≤ 8
  pub owns : m.owned w.owner ≡ length (w.low ++ w.rest) + 1
  pub owner_is : slice_index m.slots (length w.early) ≡ w.owner

size_here : (gs : List Group) (g : Gap) (w : GapGroup gs g) → slice_index (group_sizes gs) (length w.early) ≡ length (w.low ++ w.rest) + 1
size_here gs g w =
    ap (λ (x : List Group). slice_index (group_sizes x) (length w.early)) w.groups
    ∙ size_at w.early (record { front = w.low ++ w.rest; owner = w.owner }) w.late (length w.early) refl

pub not_first : (es : List Group) (low : List ℕ) (zs : List ℕ) (p n : ℕ) → zs ++ p ∷ [] ≡ records es ++ low → (length es ≡ 0 → length low ≡ 0) → 1 ≤ length es
not_first [] low zs p n e none = absurd (omega (arith, none refl, ap length e, length-append zs (p ∷ [])))
not_first (x ∷ es) low zs p n e none = omega arith

pub at_group : {bytes : List ℕ} {m : Mirror} {gs : List Group} {free : List ℕ} {g : Gap} {before at : ℕ} (w : GapGroup gs g) → HasGap bytes m gs free g before at
    → AtGroup bytes m gs free g w
at_group {bytes} {m} {gs} {free} {g} w h =
    let here = size_here gs g w in
    let s = length w.early in
    let group : Group = record { front = w.low ++ w.rest; owner = w.owner } in
    let within : s < length (group_sizes gs) = omega (arith, count_sizes gs, ap length w.groups, length-append w.early (group ∷ w.late)) in
    let may = h.sizes.each s within in
    let most = may.most in
    let groups : AllByRecursion (IsOwned m.owned) (w.early ++ group ∷ w.late) = rw w.groups at h.page.groups.owned in
    record {
      behind = not_first w.early w.low g.low g.p g.n w.first (λ e. omega (arith, may.alone e, length-append w.low w.rest));
      few = omega arith;
      owns = (each_right (IsOwned m.owned) w.early (group ∷ w.late) groups).0.owner;
      owner_is = owner_named m.slots w.early group w.late s (h.page.groups.slots ∙ ap owners w.groups) refl;
    }

-- the first of the rest of a group
pub rest_from : (rest : List ℕ) (o : ℕ) (late : List ℕ) (n : ℕ) (high : List ℕ) → n ∷ high ≡ rest ++ o ∷ late → (hs : List ℕ) × (rest ++ o ∷ [] ≡ n ∷ hs)
rest_from [] o late n high e = ([], cc)
rest_from (x ∷ xs) o late n high e = (xs ++ o ∷ [], cc)

-- the record behind the gap stands in that slot
pub record_behind : {bytes : List ℕ} {m : Mirror} {gs : List Group} {free : List ℕ} {g : Gap} {before at : ℕ} (w : GapGroup gs g) (next : ℕ)
    → HasGap bytes m gs free g before at → HasOrigin bytes m (m.next g.p) next → IsRecordOf bytes m gs free (length w.early) g.n next
record_behind {bytes} {m} {gs} {free} {g} w next h o =
    let from = rest_from w.rest w.owner (records w.late) g.n g.high w.second in
    let few = (at_group w h).few in
    record {
      page = h.page;
      slot = record {
        early = w.early;
        group = record { front = w.low ++ w.rest; owner = w.owner };
        late = w.late;
        low = w.low;
        high = from.0;
        groups = w.groups;
        slot = refl;
        record_is = append_assoc w.low w.rest (w.owner ∷ []) ∙ ap (λ (x : List ℕ). w.low ++ x) from.1;
        few = omega arith;
      };
      record_at = subst (λ (k : ℕ). HasOrigin bytes m k next) (at_gap h).leads o;
    }

-- what is known of the gap's owner
pub gap_owner : {bytes : List ℕ} {m : Mirror} {gs : List Group} {free : List ℕ} {g : Gap} {before at owner : ℕ} (w : GapGroup gs g)
    → HasGap bytes m gs free g before at → IsOwnerOf bytes m gs free (length w.early) owner → IsGapOf bytes m gs free g w before at owner
gap_owner {bytes} {m} {owner = owner} w h o =
    let a = at_group w h in
    let few = a.few in
    record {
      gap = h;
      owner_at = subst (λ (k : ℕ). HasOrigin bytes m k owner) a.owner_is o.owner;
      few = omega (arith, a.owns);
    }

-- the sizes of the groups, before and after
sizes_old : (gs : List Group) (g : Gap) (w : GapGroup gs g) → group_sizes gs ≡ group_sizes w.early ++ (length (w.low ++ w.rest) + 1) ∷ group_sizes w.late
sizes_old gs g w = ap group_sizes w.groups ∙ sizes_append w.early (record { front = w.low ++ w.rest; owner = w.owner } ∷ w.late)

sizes_new : (gs : List Group) (g : Gap) (w : GapGroup gs g) (k : ℕ) → length (w.low ++ w.rest) + 1 ≡ k
    → group_sizes (groups_with gs g w) ≡ group_sizes w.early ++ (k + 1) ∷ group_sizes w.late
sizes_new gs g w k is =
    sizes_append w.early (record { front = w.low ++ g.new ∷ w.rest; owner = w.owner } ∷ w.late)
    ∙ ap (λ (x : ℕ). group_sizes w.early ++ x ∷ group_sizes w.late) (omega (arith, length-append w.low w.rest, length-append w.low (g.new ∷ w.rest)))

pub can_split : {b0 b1 : List ℕ} {m : Mirror} {gs : List Group} {free : List ℕ} {g : Gap} {before at slot : ℕ} (w : GapGroup gs g)
    → CanEnter b0 m gs free g before at → m.owned w.owner ≡ 8 → slot ≡ length w.early → IsLinkedIn b1 m gs free g w
    → CanSplitSlot b1 (linked_in m g (owned_with m gs g w) m.slots) (groups_with gs g w) free slot
can_split {m = m} {gs = gs} {g = g} w e eight is l =
    let a = at_group w e.gap in
    let size : length (w.low ++ w.rest) + 1 ≡ 8 = sym a.owns ∙ eight in
    let behind = a.behind in
    let old : IsSized (group_sizes w.early ++ 8 ∷ group_sizes w.late) = rw (sizes_old gs g w, size) at e.gap.sizes in
    record {
      page = l.page;
      sizes = rw (sizes_new gs g w 8 size, is) (sized_but_nine (group_sizes w.early) (group_sizes w.late) (length w.early) old (omega (arith, count_sizes w.early)) (count_sizes w.early));
      room = e.room;
    }

pub entered_split : {b0 b1 : List ℕ} {m : Mirror} {gs : List Group} {free ns : List ℕ} {g : Gap} (w : GapGroup gs g)
    → IsLinkedIn b0 m gs free g w → Regroups b1 (linked_in m g (owned_with m gs g w) m.slots) (groups_with gs g w) free ns → Enters b1 m free g
entered_split w l r = (
  r.0,
  r.1,
  record {
    page = r.2.page;
    sizes = rw r.2.sizes r.2.sized;
    list = r.2.same ∙ l.list;
  },
)

pub entered_whole : {b0 b1 : List ℕ} {m : Mirror} {gs : List Group} {free : List ℕ} {g : Gap} {before at : ℕ} (w : GapGroup gs g)
    → CanEnter b0 m gs free g before at → (m.owned w.owner ≡ 8 → ⊥) → IsLinkedIn b1 m gs free g w → Enters b1 m free g
entered_whole {b1 = b1} {m = m} {gs = gs} {free = free} {g = g} w e other l =
    let a = at_group w e.gap in
    let hs = groups_with gs g w in
    let owned' = owned_with m gs g w in
    let k = length (w.low ++ w.rest) + 1 in
    let few : k < 8 = omega (arith, a.few, a.owns, other) in
    let behind = a.behind in
    let old : IsSized (group_sizes w.early ++ k ∷ group_sizes w.late) = rw (sizes_old gs g w) at e.gap.sizes in (
      owned',
      hs,
      record {
        page = subst (λ (slots : List ℕ). HasGroups b1 (linked_in m g owned' slots) hs free) l.page.groups.slots l.page;
        sizes = rw (sizes_new gs g w k refl) (sized_one_more (group_sizes w.early) (group_sizes w.late) k old (omega (arith, count_sizes w.early)) few);
        list = l.list;
      },
    )
