-- The owner of a slot, and the way to it.
use Rattle.std.proofs.Common.{◌≡◌, ℕ, zero, suc, ◌+◌, ◌-◌, ◌<◌, ◌≤◌, List, [], ◌∷◌, ◌++◌, length, get_or, slice_index, nat_eq, count_by, refl, sym, ap, subst, ◌∙◌, arith, length-append, inl, inr}
use Rattle.std.proofs.lemmas.List.{append_assoc, map-append, length-map, get_or_at, get_or-append-add}
use Rattle.std.proofs.lemmas.Grind.{flat_map-append}
use Rattle.std.proofs.lemmas.Bool.{cases_lt, cases_eq}
use Rattle.std.specs.List.{AllByRecursion}
use Rattle.list_facts.proofs.Each.{each_left, each_right}
use Rattle.page_mirror.specs.Mirror.{Mirror, origin_of}
use Rattle.page_mirror.specs.Steps.{HasOrigin}
use Rattle.page_mirror.proofs.KeptLemmas.{cells_apart}
use Rattle.page_directory.specs.Groups.{Group, members, records, owners, AreLinked, IsOwned, IsGrouped, HasGroups}
use Rattle.page_directory.specs.Sizes.{group_sizes}
use Rattle.page_directory.specs.Owners.{IsRecordOf, IsOwnerOf, LeadsToOwner, first_else}
use Rattle.page_directory.proofs.ListLemmas.{cut_at, counted_apart, linked_left, linked_right}
use Rattle.page_directory.proofs.GroupLemmas.{owners_append, count_owners}

pub slots_counted : {m : Mirror} {gs : List Group} → IsGrouped m gs → length m.slots ≡ length gs
slots_counted {gs = gs} r = ap length r.slots ∙ count_owners gs

-- the slot of a group names its owner
pub owner_named : (slots : List ℕ) (early : List Group) (g : Group) (late : List Group) (s : ℕ) → slots ≡ owners (early ++ g ∷ late) → length early ≡ s
    → slice_index slots s ≡ g.owner
owner_named slots early g late s is size =
    rw (is, owners_append early (g ∷ late)) (get_or_at (owners early) g.owner (owners late) 0 s (count_owners early ∙ size))

pub sizes_append : (es bs : List Group) → group_sizes (es ++ bs) ≡ group_sizes es ++ group_sizes bs
sizes_append es bs = map-append (λ (g : Group). length g.front + 1) es bs

pub count_sizes : (gs : List Group) → length (group_sizes gs) ≡ length gs
count_sizes gs = length-map gs (λ (g : Group). length g.front + 1)

pub size_at : (early : List Group) (g : Group) (late : List Group) (s : ℕ) → length early ≡ s → slice_index (group_sizes (early ++ g ∷ late)) s ≡ length g.front + 1
size_at early g late s size =
    rw (sizes_append early (g ∷ late)) (get_or_at (group_sizes early) (length g.front + 1) (group_sizes late) 0 s (count_sizes early ∙ size))

-- the owner of a slot owns as many as its group has
pub group_owns : {m : Mirror} {gs : List Group} (s : ℕ) → IsGrouped m gs → s < length gs → m.owned (slice_index m.slots s) ≡ slice_index (group_sizes gs) s
group_owns {m} {gs} s r w =
    let c = cut_at gs s w in
    let groups : AllByRecursion (IsOwned m.owned) (c.low ++ c.here ∷ c.high) = rw c.is at r.owned in
    let mine = each_right (IsOwned m.owned) c.low (c.here ∷ c.high) groups in
    ap m.owned (owner_named m.slots c.low c.here c.high s (r.slots ∙ ap owners c.is) c.size) ∙ mine.0.owner
    ∙ sym (size_at c.low c.here c.high s c.size) ∙ ap (λ (x : List Group). slice_index (group_sizes x) s) (sym c.is)

-- of a group's records those from one on
pub rest_of : (front : List ℕ) (o : ℕ) (low : List ℕ) (h : ℕ) (high : List ℕ) → front ++ o ∷ [] ≡ low ++ h ∷ high
    → (rest : List ℕ) × (front ≡ low ++ rest) × (first_else rest o ≡ h)
rest_of [] o [] h high e = ([], refl, cc)
rest_of (x ∷ xs) o [] h high e = (x ∷ xs, refl, cc)
rest_of [] o (y ∷ low) h high e = absurd (omega (arith, ap length e, length-append low (h ∷ high)))
rest_of (x ∷ xs) o (y ∷ low) h high e =
    let tail : xs ++ o ∷ [] ≡ low ++ h ∷ high = cc in
    let r = rest_of xs o low h high tail in
    let head : x ≡ y = cc in
    let same = r.1 in (r.0, cc, r.2)

-- from any record of a slot there is a way to its owner
pub way_to_owner : {bytes : List ℕ} {m : Mirror} {gs : List Group} {free : List ℕ} {s h at : ℕ} → IsRecordOf bytes m gs free s h at
    → (rest : List ℕ) × LeadsToOwner m rest (slice_index m.slots s) h
way_to_owner {bytes} {m} {gs} {free} {s} {h} r =
    let i = r.slot in
    let g = i.group in
    let cut = rest_of g.front g.owner i.low h i.high i.record_is in
    let rest = cut.0 in
    let owner : slice_index m.slots s ≡ g.owner = owner_named m.slots i.early g i.late s (r.page.groups.slots ∙ ap owners i.groups) i.slot in
    let groups : AllByRecursion (IsOwned m.owned) (i.early ++ g ∷ i.late) = rw i.groups at r.page.groups.owned in
    let mine = (each_right (IsOwned m.owned) i.early (g ∷ i.late) groups).0 in
    let list : records gs ≡ records i.early ++ (members g ++ records i.late) = ap records i.groups ∙ flat_map-append members i.early (g ∷ i.late) in
    let linked : AreLinked m.next (records i.early ++ (members g ++ records i.late)) = rw list at r.page.order.linked in
    let linked_group = linked_left m.next (members g) (records i.late) (linked_right m.next (records i.early) (members g ++ records i.late) linked) in
    let shape : members g ≡ i.low ++ (rest ++ g.owner ∷ []) = ap (λ (x : List ℕ). x ++ g.owner ∷ []) cut.1 ∙ append_assoc i.low rest (g.owner ∷ []) in
    let linked_cut : AreLinked m.next (i.low ++ (rest ++ g.owner ∷ [])) = rw shape at linked_group in
    let zeros : AllByRecursion (λ k. m.owned k ≡ 0) (i.low ++ rest) = rw cut.1 at mine.front in
    let few = i.few in (
      rest,
      rw owner (record {
        first = cut.2;
        none = each_right (λ k. m.owned k ≡ 0) i.low rest zeros;
        some = omega (arith, mine.owner);
        linked = linked_right m.next i.low (rest ++ g.owner ∷ []) linked_cut;
        short = omega (arith, ap length cut.1, length-append i.low rest);
      }),
    )

-- a record that owns some is the owner
pub way_ends : {m : Mirror} (rest : List ℕ) {o h : ℕ} → LeadsToOwner m rest o h → 0 < m.owned h → o ≡ h
way_ends [] w some = w.first
way_ends {m} (x ∷ xs) {o} {h} w some =
    let none : m.owned h ≡ 0 = ap m.owned (sym w.first) ∙ w.none.0 in
    absurd (omega arith)

pub way_over : {m : Mirror} (rest : List ℕ) {o h : ℕ} → LeadsToOwner m rest o h → length rest ≤ 0 → o ≡ h
way_over [] w none = w.first
way_over (x ∷ xs) w none = absurd (omega arith)

-- from one that owns none the way goes on
pub way_goes_on : {m : Mirror} (rest : List ℕ) {o h : ℕ} → LeadsToOwner m rest o h → m.owned h ≡ 0
    → (rest' : List ℕ) × LeadsToOwner m rest' o (m.next h) × (length rest' + 1 ≡ length rest)
way_goes_on {m} [] {o} {h} w none =
    let some = w.some in
    let owns : m.owned o ≡ 0 = ap m.owned w.first ∙ none in
    absurd (omega arith)
way_goes_on {m} (x ∷ xs) {o} {h} w none =
    let short = w.short in (
      xs,
      record {
        first = sym (linked_head xs w.linked) ∙ ap m.next w.first;
        none = w.none.1;
        some = w.some;
        linked = linked_right m.next (x ∷ []) (xs ++ o ∷ []) w.linked;
        short = omega arith;
      },
      omega arith,
    )
  where
    linked_head : (ys : List ℕ) → AreLinked m.next (x ∷ ys ++ o ∷ []) → m.next x ≡ first_else ys o
    linked_head [] l = l.0
    linked_head (y ∷ ys) l = l.0

-- records with one origin are one
pub origin_once : {bytes : List ℕ} {m : Mirror} {h k at : ℕ} → HasOrigin bytes m h at → HasOrigin bytes m k at → h ≡ k
origin_once {bytes} {m} {h} {k} r t = elim (cases_eq h k) [
  | inl is ↦ is
  | inr other ↦
      let same : origin_of m h ≡ origin_of m k = r.placed ∙ sym t.placed in
      absurd (elim (cells_apart r.is.heap h k r.within t.within other) [ inl below ↦ omega arith | inr above ↦ omega arith ])
]

owner_among : (P : ℕ → Type 0) (gs : List Group) (k : ℕ) → k < length gs → AllByRecursion P (records gs) → P (get_or (owners gs) k 0)
owner_among P [] k w a = absurd (omega arith)
owner_among P (g ∷ gs) zero w a = (each_right P g.front (g.owner ∷ []) (each_left P (members g) (records gs) a)).0
owner_among P (g ∷ gs) (suc k) w a = owner_among P gs k (omega arith) (each_right P (members g) (records gs) a)

-- a later slot names another record
owners_apart_at : (low : List Group) (g : Group) (high : List Group) (free : List ℕ) (j : ℕ)
    → count_by (λ k. nat_eq k g.owner) (records (low ++ g ∷ high) ++ free) ≤ 1 → j < length high → get_or (owners high) j 0 ≡ g.owner → ⊥
owners_apart_at low g high free j once within =
    let list : records (low ++ g ∷ high) ++ free ≡ (records low ++ g.front) ++ g.owner ∷ (records high ++ free) =
    ap (λ (x : List ℕ). x ++ free) (flat_map-append members low (g ∷ high)) ∙ simp append_assoc in
    let from = counted_apart g.owner (records low ++ g.front) (records high ++ free) (rw (← list) once) in
    owner_among (λ k. k ≡ g.owner → ⊥) high j within (each_left (λ k. k ≡ g.owner → ⊥) (records high) free from.1)

pub owners_apart : (gs : List Group) (free : List ℕ) (i s : ℕ) → ((h : ℕ) → count_by (λ k. nat_eq k h) (records gs ++ free) ≤ 1) → i < s → s < length gs
    → get_or (owners gs) i 0 ≡ get_or (owners gs) s 0 → ⊥
owners_apart gs free i s once below within same =
    let low_i : i < length gs = omega arith in
    let c = cut_at gs i low_i in
    let g = c.here in
    let names : owners gs ≡ owners c.low ++ g.owner ∷ owners c.high = ap owners c.is ∙ owners_append c.low (g ∷ c.high) in
    let size = count_owners c.low in
    let all : length gs ≡ length c.low + suc (length c.high) = ap length c.is ∙ length-append c.low (g ∷ c.high) in
    let j = s - i - 1 in
    let at_i : (k : ℕ) → length c.low ≡ k → get_or (owners gs) k 0 ≡ g.owner =
    λ k e. ap (λ (x : List ℕ). get_or x k 0) names ∙ get_or_at (owners c.low) g.owner (owners c.high) 0 k (size ∙ e) in
    let place : s ≡ length (owners c.low) + suc j = omega (arith, size, c.size) in
    let second : get_or (owners gs) s 0 ≡ get_or (owners c.high) j 0 =
    ap (λ (x : List ℕ). get_or x s 0) names ∙ ap (λ (n : ℕ). get_or (owners c.low ++ g.owner ∷ owners c.high) n 0) place
    ∙ get_or-append-add (owners c.low) (g.owner ∷ owners c.high) (suc j) 0 in
    owners_apart_at c.low g c.high free j (subst (λ (x : List Group). count_by (λ k. nat_eq k g.owner) (records x ++ free) ≤ 1) c.is (once g.owner))
    (omega (arith, c.size)) (sym second ∙ sym same ∙ at_i i c.size)

-- slots that name one record are one
pub slot_once : {bytes : List ℕ} {m : Mirror} {gs : List Group} {free : List ℕ} {at : ℕ} (i s : ℕ) → HasGroups bytes m gs free
    → HasOrigin bytes m (slice_index m.slots i) at → HasOrigin bytes m (slice_index m.slots s) at → i < length gs → s < length gs → i ≡ s
slot_once {bytes} {m} {gs} {free} i s page r t low high =
    let same : get_or (owners gs) i 0 ≡ get_or (owners gs) s 0 = rw page.groups.slots at (origin_once r t) in
    elim (cases_lt i s) [
      | inl below ↦ absurd (owners_apart gs free i s page.order.once below high same)
      | inr above ↦ elim (cases_eq i s) [
        | inl is ↦ is
        | inr other ↦ absurd (owners_apart gs free s i page.order.once (omega (arith, other)) low (sym same))
      ]
    ]

pub is_owner : {bytes : List ℕ} {m : Mirror} {gs : List Group} {free : List ℕ} {s h at : ℕ} (k owner : ℕ) → IsRecordOf bytes m gs free s h at → HasOrigin bytes m k owner
    → slice_index m.slots s ≡ k → IsOwnerOf bytes m gs free s owner
is_owner k owner r t is =
    let i = r.slot in
    record {
      page = r.page;
      within = omega (arith, ap length i.groups, length-append i.early (i.group ∷ i.late), i.slot);
      owner = rw is t;
    }
