-- A record that leaves the list.
use Rattle.std.specs.Prelude.{◌≡◌, ℕ, ◌+◌, ◌-◌, ◌<◌, ◌≤◌, Bool, false, ◌&&◌, List, [], ◌∷◌, ◌++◌, length, slice_index, nat_eq, nat_le, nat_lt, if◌then◌else◌}
use Rattle.std.specs.List.{AllByRecursion}
use Rattle.page_mirror.specs.Mirror.{Mirror, changed}
use Rattle.page_mirror.specs.Steps.{HasOrigin}
use Rattle.page_directory.specs.Groups.{Group, records, owners, AreLinked, HasGroups}
use Rattle.page_directory.specs.Sizes.{group_sizes, IsSized, IsSizedBut, sizes_balanced}
use Rattle.page_directory.specs.Owners.{first_else}
use Rattle.page_list.specs.Entering.{IsGroupOf}

-- where record `here` stands: between p and n, with `low` before the one and `high` behind the
-- other
pub record Between : Type 0 where
  pub low : List ℕ
  pub p : ℕ
  pub here : ℕ
  pub n : ℕ
  pub high : List ℕ

-- the list of the page has the record there: it is neither the first nor the last
pub record CanLeave (bytes : List ℕ) (m : Mirror) (gs : List Group) (free : List ℕ) (b : Between)
    (at : ℕ) : Type 0 where
  pub page : HasGroups bytes m gs free
  pub sizes : IsSized (group_sizes gs)
  pub list : records gs ≡ (b.low ++ b.p ∷ []) ++ b.here ∷ b.n ∷ b.high
  pub here_at : HasOrigin bytes m b.here at

-- the page in which p leads to n
abbrev pub linked_out : Mirror → Between → (ℕ → ℕ) → List ℕ → Mirror
linked_out m b owned slots = record m {
  next = changed m.next b.p b.n;
  owned = owned;
  slots = slots;
  rows = m.rows - 1;
}

-- the first of these sizes, if there is one, is at most four
abbrev pub begins_with_few : List ℕ → Bool
begins_with_few [] = false
begins_with_few (n ∷ ns) = nat_le n 4

-- with the record of this number in the list its slot goes: the slot has four records and isn't the
-- last, and the next one has at most four
abbrev pub slot_goes : List ℕ → ℕ → Bool
slot_goes [] k = false
slot_goes (n ∷ ns) k =
    if nat_lt k n then nat_eq n 4 && begins_with_few ns else slot_goes ns (k - n)

-- how many slots go with the record
abbrev pub slots_gone : List Group → Between → ℕ
slots_gone gs b = if slot_goes (group_sizes gs) (length b.low + 1) then 1 else 0

-- the list is without the record, in these groups, and the record owns none; no more of the page
-- changed than slots and owned counts, and where the record's slot goes there is one slot less
pub record HasLeft (bytes : List ℕ) (m : Mirror) (gs : List Group) (free : List ℕ) (b : Between)
    (owned : ℕ → ℕ) (hs : List Group) : Type 0 where
  pub page : HasGroups bytes (linked_out m b owned (owners hs)) hs free
  pub sizes : IsSized (group_sizes hs)
  pub list : records hs ≡ (b.low ++ b.p ∷ []) ++ b.n ∷ b.high
  pub none : owned b.here ≡ 0
  pub slots : length hs + slots_gone gs b ≡ length m.slots

-- the record has left the list, which stands in some groups
abbrev pub LeavesList : List ℕ → Mirror → List Group → List ℕ → Between → Type 0
LeavesList bytes m gs free b =
    (owned : ℕ → ℕ) × (hs : List Group) × HasLeft bytes m gs free b owned hs

-- the group of the record
abbrev pub GroupAround : List Group → Between → Type 0
GroupAround gs b = IsGroupOf gs (b.low ++ b.p ∷ []) b.here (b.n ∷ b.high)

-- the record may leave, and its group is that of this slot
pub record IsAround (bytes : List ℕ) (m : Mirror) (gs : List Group) (free : List ℕ) (b : Between)
    (group : GroupAround gs b) (slot at : ℕ) : Type 0 where
  pub can : CanLeave bytes m gs free b at
  pub slot_is : slot ≡ length group.early

-- from record h the way to record r leads over `rest`, and over p as the last
pub record LeadsToPrevious (m : Mirror) (rest : List ℕ) (p r h : ℕ) : Type 0 where
  pub first : first_else rest p ≡ h
  pub linked : AreLinked m.next (rest ++ p ∷ r ∷ [])
  pub apart : AllByRecursion (λ k. k ≡ r → ⊥) (rest ++ p ∷ [])
  pub short : length rest ≤ 8

-- the record may leave, and these are the origins of the one before it and of its owner
pub record IsPassedOver (bytes : List ℕ) (m : Mirror) (gs : List Group) (free : List ℕ)
    (b : Between) (group : GroupAround gs b) (before at owner slot : ℕ) : Type 0 where
  pub around : IsAround bytes m gs free b group slot at
  pub before_at : HasOrigin bytes m b.p before
  pub owner_at : HasOrigin bytes m group.owner owner

-- of the origins before, at and owner: which one owns the group when the record at `at` has left
abbrev pub heir_of : ℕ → ℕ → ℕ → ℕ
heir_of before at owner = if nat_eq owner at then before else owner

-- the groups with these records in place of the group around the record
abbrev pub groups_around : (gs : List Group) (b : Between) → GroupAround gs b → Group → List Group
groups_around gs b w g = w.early ++ g ∷ w.late

-- the list is without the record, whose group is one short
pub record IsLinkedOut (bytes : List ℕ) (m : Mirror) (gs : List Group) (free : List ℕ)
    (b : Between) (w : GroupAround gs b) : Type 0 where
  pub group : Group
  pub owned : ℕ → ℕ
  pub page : HasGroups bytes (linked_out m b owned (owners (groups_around gs b w group)))
      (groups_around gs b w group) free
  pub list : records (groups_around gs b w group) ≡ (b.low ++ b.p ∷ []) ++ b.n ∷ b.high
  pub short : length group.front + 1 ≡ length (w.low ++ w.rest)

-- slot s, which isn't the first, has one record less than it may, or as many
pub record HasShortSlot (bytes : List ℕ) (m : Mirror) (gs : List Group) (free : List ℕ) (s : ℕ)
    : Type 0 where
  pub page : HasGroups bytes m gs free
  pub size : ℕ
  pub sizes : IsSizedBut s size (group_sizes gs)
  pub some : 1 ≤ size
  pub most : size ≤ 8
  pub least : s + 1 < length gs → 3 ≤ size

-- slot s balanced, where it has three and isn't the last
abbrev pub sizes_mended : ℕ → List ℕ → List ℕ
sizes_mended s ns =
    if nat_lt (s + 1) (length ns) && nat_eq (slice_index ns s) 3 then sizes_balanced s ns else ns
