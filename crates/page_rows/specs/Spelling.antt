-- What makes some bytes a page of rows.
use Rattle.std.specs.Prelude.{◌≡◌, ℕ, ◌+◌, ◌<◌, ◌≤◌, List, [], ◌∷◌, ◌++◌, length, sum_by, count_by, nat_eq}
use Rattle.std.specs.List.{AllByRecursion}
use Rattle.compact_record.specs.Record.{PlacedRecord, IsRecord, record_size_of}
use Rattle.page_mirror.specs.Mirror.{Mirror, origin_of}
use Rattle.page_heap.specs.Heap.{cell_of}
use Rattle.page_directory.specs.Groups.{Group, records, HasGroups}
use Rattle.page_directory.specs.Sizes.{group_sizes, IsSized}
use Rattle.page_directory.specs.Owners.{first_else}

-- each record of the free list leads to the one behind it, and the last one to itself
abbrev pub AreFree : (ℕ → ℕ) → List ℕ → Type 0
AreFree next [] = Unit {0}
AreFree next (h ∷ hs) = (next h ≡ first_else hs h) × AreFree next hs

-- where the free list begins, 0 where it is empty
abbrev pub free_origin : Mirror → List ℕ → ℕ
free_origin m [] = 0
free_origin m (h ∷ hs) = origin_of m h

-- how many bytes a record takes
abbrev pub size_of_record : PlacedRecord → ℕ
size_of_record r = record_size_of r.kind r.key r.tail

-- the bytes of heap number h are this record, which has so many key fields
pub record StandsAsRow (fields : ℕ) (m : Mirror) (of : ℕ → PlacedRecord) (h : ℕ) : Type 0 where
  pub cell : m.cell h ≡ cell_of (of h)
  pub sound : IsRecord (of h)
  pub count : length (of h).key ≡ fields

-- a page of rows: its mirror, its records by their heap numbers, the groups of its list, the list
-- between infimum and supremum, and the free list
pub record PageParts : Type 0 where
  pub mirror : Mirror
  pub of : ℕ → PlacedRecord
  pub groups : List Group
  pub inner : List ℕ
  pub free : List ℕ

-- the records between infimum and supremum are rows, in groups of sizes that may be; the head and
-- each freed record tell where the free list goes on; each record is in the list, on the free list
-- or loose; HEAP_TOP is behind all that are used and what is wasted, the freed ones among it
pub record SpellsRows (bytes : List ℕ) (fields : ℕ) (p : PageParts) (loose : List ℕ) : Type 0 where
  pub page : HasGroups bytes p.mirror p.groups p.free
  pub sizes : IsSized (group_sizes p.groups)
  pub list : records p.groups ≡ 0 ∷ (p.inner ++ 1 ∷ [])
  pub whole : (h : ℕ) → h < p.mirror.count
      → 1 ≤ count_by (λ k. nat_eq k h) (loose ++ (records p.groups ++ p.free))
  pub last : p.mirror.next 1 ≡ 1
  pub rows : AllByRecursion (StandsAsRow fields p.mirror p.of) (loose ++ (p.inner ++ p.free))
  pub free_from : p.mirror.free ≡ free_origin p.mirror p.free
  pub free_on : AreFree p.mirror.next p.free
  pub used : p.mirror.top
      ≡ 120 + sum_by (λ h. size_of_record (p.of h)) (loose ++ p.inner) + p.mirror.garbage
  pub freed : sum_by (λ h. size_of_record (p.of h)) p.free ≤ p.mirror.garbage

-- the bytes spell a list of rows, and no record is loose
pub record IsPageOfRows (bytes : List ℕ) (fields : ℕ) : Type 0 where
  pub parts : PageParts
  pub spells : SpellsRows bytes fields parts []
