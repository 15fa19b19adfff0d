-- The list of a page's records, in groups: each slot names the last record of its group.
use Rattle.std.specs.Prelude.{◌≡◌, ℕ, ◌+◌, ◌<◌, ◌≤◌, List, [], ◌∷◌, ◌++◌, length, map, count_by, nat_eq}
use Rattle.std.specs.List.{flat_map, AllByRecursion}
use Rattle.page_mirror.specs.Mirror.{Mirror, Mirrors}

-- the records of a slot: its owner, and those in front of it
pub record Group : Type 0 where
  pub front : List ℕ
  pub owner : ℕ

-- all of them
abbrev pub members : Group → List ℕ
members g = g.front ++ g.owner ∷ []

-- the records of the groups, one behind the other
abbrev pub records : List Group → List ℕ
records gs = flat_map members gs

-- the owners of the groups
abbrev pub owners : List Group → List ℕ
owners gs = map (λ (g : Group). g.owner) gs

-- each record leads to the one behind it
abbrev pub AreLinked : (ℕ → ℕ) → List ℕ → Type 0
AreLinked next [] = Unit {0}
AreLinked next (h ∷ []) = Unit {0}
AreLinked next (h ∷ k ∷ hs) = (next h ≡ k) × AreLinked next (k ∷ hs)

-- the owner owns all records of the group, and the others own none
pub record IsOwned (owned : ℕ → ℕ) (g : Group) : Type 0 where
  pub owner : owned g.owner ≡ length g.front + 1
  pub front : AllByRecursion (λ h. owned h ≡ 0) g.front

-- the slots name the owners
pub record IsGrouped (m : Mirror) (gs : List Group) : Type 0 where
  pub slots : m.slots ≡ owners gs
  pub owned : AllByRecursion (IsOwned m.owned) gs

-- each record of the list leads to the next, and no record is twice in it and on the free list
pub record IsRecordList (m : Mirror) (list free : List ℕ) : Type 0 where
  pub linked : AreLinked m.next list
  pub once : (h : ℕ) → count_by (λ k. nat_eq k h) (list ++ free) ≤ 1
  pub inside : AllByRecursion (λ h. h < m.count) (list ++ free)
  pub rows : m.rows + 2 ≡ length list

-- the page has a list of records in these groups, and this free list
pub record HasGroups (bytes : List ℕ) (m : Mirror) (gs : List Group) (free : List ℕ) : Type 0 where
  pub is : Mirrors bytes m
  pub groups : IsGrouped m gs
  pub order : IsRecordList m (records gs) free
