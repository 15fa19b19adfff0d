-- A row that goes from a page.
use Rattle.std.specs.Prelude.{◌≡◌, ℕ, ◌+◌, ◌-◌, ◌<◌, ◌≤◌, List, [], ◌∷◌, ◌++◌, length, slice_index, nat_eq, if◌then◌else◌}
use Rattle.std.specs.List.{AllByRecursion}
use Rattle.page_mirror.specs.Mirror.{changed, origin_of}
use Rattle.page_mirror.specs.Steps.{HasOrigin}
use Rattle.page_directory.specs.Groups.{records}
use Rattle.page_directory.specs.Owners.{first_else}
use Rattle.page_list.specs.Leaving.{slot_goes}
use Rattle.index_page.specs.declared.room.Gaps.{Gaps}
use Rattle.index_page.specs.Rows.{Row}
use Rattle.index_page.specs.Loads.{charge_of}
use Rattle.page_rows.specs.Reading.{rows_in_bytes}
use Rattle.page_rows.specs.Slots.{sizes_in_bytes}
use Rattle.page_rows.specs.Spelling.{size_of_record, PageParts, SpellsRows, IsPageOfRows}
use Rattle.page_rows.specs.Inserting.{gaps_in_bytes}

-- the page with the record that is loose at the free list's head
abbrev pub freed_parts : PageParts → ℕ → PageParts
freed_parts p h = record p {
  mirror = record (p.mirror) {
    next = changed p.mirror.next h (first_else p.free h);
    free = origin_of p.mirror h;
    garbage = p.mirror.garbage + size_of_record (p.of h);
  };
  free = h ∷ p.free;
}

-- the record of so many bytes is neither in the list nor on the free list, and its origin is `at`
pub record IsLoose (bytes : List ℕ) (fields : ℕ) (p : PageParts) (h at size : ℕ) : Type 0 where
  pub spells : SpellsRows bytes fields p (h ∷ [])
  pub apart : AllByRecursion (λ k. k ≡ h → ⊥) (records p.groups ++ p.free)
  pub loose_at : HasOrigin bytes p.mirror h at
  pub size_is : size ≡ size_of_record (p.of h)

-- where a freed record leads: to the free list's head, or to itself where the list is empty
abbrev pub origin_after : ℕ → ℕ → ℕ
origin_after head at = if nat_eq head 0 then at else head

-- the row stands between these rows of the page, at this place
pub record CanDeleteRow (bytes : List ℕ) (fields : ℕ) (left : List Row) (row : Row)
    (right : List Row) (place : ℕ) : Type 0 where
  pub page : IsPageOfRows bytes fields
  pub rows : rows_in_bytes bytes fields ≡ left ++ row ∷ right
  pub place_is : row.place ≡ place

-- the gaps once a row is gone before which so many stand, by the gaps and the slots' sizes with it:
-- its record of so many bytes is the free list's head, and behind all records are as many bytes as
-- before, or two more where its slot goes. In the list infimum stands before that row, too
abbrev pub gaps_after : Gaps → List ℕ → ℕ → ℕ → Gaps
gaps_after gaps sizes before size = record {
  head = size;
  rest = gaps.rest + (if slot_goes sizes (before + 1) then 2 else 0);
}

-- the row is gone, its record is freed, and the bytes around the head's numbers stay
pub record DeletesInBytes (old new : List ℕ) (fields : ℕ) (left : List Row) (row : Row)
    (right : List Row) : Type 0 where
  pub page : IsPageOfRows new fields
  pub rows : rows_in_bytes new fields ≡ left ++ right
  pub gaps : gaps_in_bytes new fields ≡ gaps_after (gaps_in_bytes old fields) (sizes_in_bytes old)
      (length left) (charge_of row.key row.body - 1)
  pub low : (k : ℕ) → k < 38 → slice_index new k ≡ slice_index old k
  pub high : (k : ℕ) → 56 ≤ k → k < 94 → slice_index new k ≡ slice_index old k
