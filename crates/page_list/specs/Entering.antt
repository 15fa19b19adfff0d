-- A record that comes into the list.
use Rattle.std.specs.Prelude.{◌≡◌, ℕ, ◌+◌, ◌*◌, ◌<◌, ◌≤◌, List, [], ◌∷◌, ◌++◌, length}
use Rattle.std.specs.List.{AllByRecursion}
use Rattle.page_mirror.specs.Mirror.{Mirror, changed}
use Rattle.page_mirror.specs.Steps.{HasOrigin}
use Rattle.page_directory.specs.Groups.{Group, records, owners, HasGroups}
use Rattle.page_directory.specs.Sizes.{group_sizes, IsSized}

-- where record `new` comes: between p and n, with `low` before the one and `high` behind the other
pub record Gap : Type 0 where
  pub low : List ℕ
  pub p : ℕ
  pub new : ℕ
  pub n : ℕ
  pub high : List ℕ

-- the list of the page has that gap, and the record is neither in it nor on the free list
pub record HasGap (bytes : List ℕ) (m : Mirror) (gs : List Group) (free : List ℕ) (g : Gap)
    (before at : ℕ) : Type 0 where
  pub page : HasGroups bytes m gs free
  pub sizes : IsSized (group_sizes gs)
  pub list : records gs ≡ (g.low ++ g.p ∷ []) ++ g.n ∷ g.high
  pub apart : AllByRecursion (λ k. k ≡ g.new → ⊥) (records gs ++ free)
  pub none : m.owned g.new ≡ 0
  pub before_at : HasOrigin bytes m g.p before
  pub new_at : HasOrigin bytes m g.new at
  pub few : m.rows < 65535

-- so it has, and there is room for a slot more
pub record CanEnter (bytes : List ℕ) (m : Mirror) (gs : List Group) (free : List ℕ) (g : Gap)
    (before at : ℕ) : Type 0 where
  pub gap : HasGap bytes m gs free g before at
  pub room : m.top + 2 * length m.slots + 2 ≤ 16376

-- the page with the record between p and n
abbrev pub linked_in : Mirror → Gap → (ℕ → ℕ) → List ℕ → Mirror
linked_in m g owned slots = record m {
  next = changed (changed m.next g.new g.n) g.p g.new;
  owned = owned;
  slots = slots;
  rows = m.rows + 1;
}

-- the record stands there in these groups, and no more of the page changed than slots and owned
-- counts
pub record HasEntered (bytes : List ℕ) (m : Mirror) (free : List ℕ) (g : Gap) (owned : ℕ → ℕ)
    (hs : List Group) : Type 0 where
  pub page : HasGroups bytes (linked_in m g owned (owners hs)) hs free
  pub sizes : IsSized (group_sizes hs)
  pub list : records hs ≡ (g.low ++ g.p ∷ []) ++ g.new ∷ g.n ∷ g.high

-- the record stands there, in some groups
abbrev pub Enters : List ℕ → Mirror → List ℕ → Gap → Type 0
Enters bytes m free g = (owned : ℕ → ℕ) × (hs : List Group) × HasEntered bytes m free g owned hs

-- the group of record n: those of its front that stand before n, and those from n on
pub record IsGroupOf (gs : List Group) (before : List ℕ) (n : ℕ) (after : List ℕ) : Type 0 where
  pub early : List Group
  pub low : List ℕ
  pub rest : List ℕ
  pub owner : ℕ
  pub late : List Group
  pub groups : gs ≡ early ++ record { front = low ++ rest; owner = owner } ∷ late
  pub first : before ≡ records early ++ low
  pub second : n ∷ after ≡ rest ++ owner ∷ records late

-- the group of the record behind the gap
abbrev pub GapGroup : List Group → Gap → Type 0
GapGroup gs g = IsGroupOf gs (g.low ++ g.p ∷ []) g.n g.high

-- the list has the gap, and `owner` is the origin of the owner of the one behind it
pub record IsGapOf (bytes : List ℕ) (m : Mirror) (gs : List Group) (free : List ℕ) (g : Gap)
    (group : GapGroup gs g) (before at owner : ℕ) : Type 0 where
  pub gap : HasGap bytes m gs free g before at
  pub owner_at : HasOrigin bytes m group.owner owner
  pub few : m.owned group.owner ≤ 8

-- the groups with the record in that of n
abbrev pub groups_with : (gs : List Group) (g : Gap) → GapGroup gs g → List Group
groups_with gs g w =
    w.early ++ record { front = w.low ++ g.new ∷ w.rest; owner = w.owner } ∷ w.late

-- the owner owns one more
abbrev pub owned_with : (m : Mirror) (gs : List Group) (g : Gap) → GapGroup gs g → ℕ → ℕ
owned_with m gs g w = changed m.owned w.owner (m.owned w.owner + 1)

-- the record stands in the group of n, which may have nine then
pub record IsLinkedIn (bytes : List ℕ) (m : Mirror) (gs : List Group) (free : List ℕ) (g : Gap)
    (w : GapGroup gs g) : Type 0 where
  pub page : HasGroups bytes (linked_in m g (owned_with m gs g w) m.slots) (groups_with gs g w) free
  pub list : records (groups_with gs g w) ≡ (g.low ++ g.p ∷ []) ++ g.new ∷ g.n ∷ g.high
