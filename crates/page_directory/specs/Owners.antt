-- Records, their slots and their owners.
use Rattle.std.specs.Prelude.{◌≡◌, ℕ, ◌<◌, ◌≤◌, List, [], ◌∷◌, ◌++◌, length, slice_index}
use Rattle.std.specs.List.{AllByRecursion}
use Rattle.page_mirror.specs.Mirror.{Mirror}
use Rattle.page_mirror.specs.Steps.{HasOrigin}
use Rattle.page_directory.specs.Groups.{Group, members, HasGroups, AreLinked}

-- record h is one of slot s, which has at most nine
pub record IsInSlot (gs : List Group) (s h : ℕ) : Type 0 where
  pub early : List Group
  pub group : Group
  pub late : List Group
  pub low : List ℕ
  pub high : List ℕ
  pub groups : gs ≡ early ++ group ∷ late
  pub slot : length early ≡ s
  pub record_is : members group ≡ low ++ h ∷ high
  pub few : length group.front ≤ 8

-- the page has these groups, and `at` is the origin of record h of slot s
pub record IsRecordOf (bytes : List ℕ) (m : Mirror) (gs : List Group) (free : List ℕ) (s h at : ℕ)
    : Type 0 where
  pub page : HasGroups bytes m gs free
  pub slot : IsInSlot gs s h
  pub record_at : HasOrigin bytes m h at

-- the page has these groups, and `at` is the origin of the owner of slot s
pub record IsOwnerOf (bytes : List ℕ) (m : Mirror) (gs : List Group) (free : List ℕ) (s at : ℕ)
    : Type 0 where
  pub page : HasGroups bytes m gs free
  pub within : s < length gs
  pub owner : HasOrigin bytes m (slice_index m.slots s) at

-- the first of a list, or else o
abbrev pub first_else : List ℕ → ℕ → ℕ
first_else [] o = o
first_else (x ∷ xs) o = x

-- from record h the way to its owner o leads over `rest`, which own none
pub record LeadsToOwner (m : Mirror) (rest : List ℕ) (o h : ℕ) : Type 0 where
  pub first : first_else rest o ≡ h
  pub none : AllByRecursion (λ k. m.owned k ≡ 0) rest
  pub some : 1 ≤ m.owned o
  pub linked : AreLinked m.next (rest ++ o ∷ [])
  pub short : length rest ≤ 8
