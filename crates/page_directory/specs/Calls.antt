-- What the calls on slots ask for and do.
use Rattle.std.specs.Prelude.{◌≡◌, ℕ, ◌+◌, ◌*◌, ◌<◌, ◌≤◌, List, length}
use Rattle.page_mirror.specs.Mirror.{Mirror}
use Rattle.page_directory.specs.Groups.{Group, records, owners, HasGroups}
use Rattle.page_directory.specs.Sizes.{group_sizes, IsSized, IsSizedBut}

-- slot s has nine records, and there is room for a slot more
pub record CanSplitSlot (bytes : List ℕ) (m : Mirror) (gs : List Group) (free : List ℕ) (s : ℕ)
    : Type 0 where
  pub page : HasGroups bytes m gs free
  pub sizes : IsSizedBut s 9 (group_sizes gs)
  pub room : m.top + 2 * length m.slots + 2 ≤ 16376

-- slot s has three records, and isn't the last
pub record CanBalanceSlot (bytes : List ℕ) (m : Mirror) (gs : List Group) (free : List ℕ) (s : ℕ)
    : Type 0 where
  pub page : HasGroups bytes m gs free
  pub sizes : IsSizedBut s 3 (group_sizes gs)
  pub inner : s + 1 < length gs

-- the same list as in gs stands in the groups hs, of these sizes, and no more of the page changed
-- than slots and owned counts
pub record AreRegrouped (bytes : List ℕ) (m : Mirror) (gs : List Group) (free : List ℕ)
    (ns : List ℕ) (owned : ℕ → ℕ) (hs : List Group) : Type 0 where
  pub page : HasGroups bytes (record m { owned = owned; slots = owners hs }) hs free
  pub same : records hs ≡ records gs
  pub sizes : group_sizes hs ≡ ns
  pub sized : IsSized ns

-- the same list stands in groups of these sizes, each of which may be
abbrev pub Regroups : List ℕ → Mirror → List Group → List ℕ → List ℕ → Type 0
Regroups bytes m gs free ns =
    (owned : ℕ → ℕ) × (hs : List Group) × AreRegrouped bytes m gs free ns owned hs
