-- A page on which no bytes are in no use has bytes for what it has room for.
use Rattle.std.proofs.Common.{◌≡◌, ℕ, suc, ◌+◌, ◌*◌, ◌<◌, ◌≤◌, true, List, [], ◌∷◌, length, get_or, sym, ap, subst, ◌∙◌, arith, length-append, append-nil, inl, inr}
use Rattle.std.proofs.lemmas.Bool.{cases_lt}
use Rattle.std.proofs.lemmas.Bool.Decides.{nat_tests}
use Rattle.key_tuple.specs.Order.{FieldList}
use Rattle.compact_record.specs.declared.kind.RecordKind.{RecordKind}
use Rattle.compact_record.specs.Bytes.{u16_at}
use Rattle.page_mirror.specs.Steps.{HasOrigin}
use Rattle.page_heap.specs.Heap.{cell_of, record_from, enlarged}
use Rattle.page_directory.specs.Groups.{Group, members, records}
use Rattle.page_directory.specs.Sizes.{group_sizes, MayOwn}
use Rattle.page_directory.proofs.ListLemmas.{none_left}
use Rattle.page_directory.proofs.OwnerLemmas.{slots_counted, count_sizes}
use Rattle.page_list.specs.Entering.{Enters}
use Rattle.index_page.specs.declared.TheConstants.{PAGE_ROOM, MAX_CHARGE}
use Rattle.index_page.specs.declared.room.Gaps.{Gaps}
use Rattle.index_page.specs.Rows.{placed_row}
use Rattle.index_page.specs.Loads.{load_of}
use Rattle.index_page.specs.Refusals.{takes}
use Rattle.page_rows.specs.Reading.{rows_in_bytes, body_of_kind}
use Rattle.page_rows.specs.Spelling.{PageParts, SpellsRows}
use Rattle.page_rows.specs.Inserting.{gaps_in_bytes, CanTakeBehind, IsTaken, CanInsertRow}
use Rattle.page_rows.specs.Appending.{CanAppendRow, AppendsInBytes}
use Rattle.page_rows.proofs.RoomLemmas.{page_sums, gaps_are}
use Rattle.page_rows.proofs.InsertRowLemmas.{RowGap, can_take, parts_with, row_inserted}

-- behind the first slot each but the last has four records
least_records : (gs : List Group) (count k : ℕ) → k + length gs ≡ count → 1 ≤ k → 1 ≤ length gs
    → ((s : ℕ) → s < length gs → MayOwn count (k + s) (get_or (group_sizes gs) s 0)) → 4 * length gs ≤ length (records gs) + 3
least_records [] count k e low some each = absurd (omega arith)
least_records (g ∷ []) count k e low some each =
    omega (arith, length-append g.front (g.owner ∷ []), length-append (members g) [])
least_records (g ∷ h ∷ gs) count k e low some each =
    let here = (each 0 (omega arith)).least (omega arith) (omega arith) in
    let rest = least_records (h ∷ gs) count (k + 1) (omega arith) (omega arith) (omega arith)
    (λ s w. let at : k + suc s ≡ k + 1 + s = omega arith in subst (λ (i : ℕ). MayOwn count i (get_or (group_sizes (h ∷ gs)) s 0)) at (each (suc s) (omega arith))) in
    omega (arith, length-append g.front (g.owner ∷ []), length-append (members g) (records (h ∷ gs)), here, rest)

few_slots : (gs : List Group) (n : ℕ) → 2 ≤ length gs → ((s : ℕ) → s < length gs → MayOwn (length gs) s (get_or (group_sizes gs) s 0)) → length (records gs) ≡ n + 2 → 4 * length gs ≤ n + 8
few_slots [] n two each count = absurd (omega arith)
few_slots (g ∷ gs) n two each count =
    let rest = least_records gs (length (g ∷ gs)) 1 (omega arith) (omega arith) (omega arith)
    (λ s w. let at : suc s ≡ 1 + s = omega arith in subst (λ (i : ℕ). MayOwn (length (g ∷ gs)) i (get_or (group_sizes gs) s 0)) at (each (suc s) (omega arith))) in
    omega (arith, length-append g.front (g.owner ∷ []), length-append (members g) (records gs), rest)

-- there is a slot for four rows each, and two more
pub slots_by_rows : {bytes : List ℕ} {fields : ℕ} {p : PageParts} {loose : List ℕ} → SpellsRows bytes fields p loose → 4 * length p.mirror.slots ≤ length p.inner + 8
slots_by_rows {p = p} r =
    let sizes = count_sizes p.groups in
    let two = r.sizes.two in
    let each : (s : ℕ) → s < length p.groups → MayOwn (length p.groups) s (get_or (group_sizes p.groups) s 0) =
    λ s w. subst (λ (n : ℕ). MayOwn n s (get_or (group_sizes p.groups) s 0)) sizes (r.sizes.each s (omega arith)) in
    let few = few_slots p.groups (length p.inner) (omega arith) each (omega (arith, ap length r.list, length-append p.inner (1 ∷ []))) in
    omega (arith, few, slots_counted r.page.groups)

-- what has room has bytes behind all records
pub tight_fits : {bytes : List ℕ} {fields : ℕ} {p : PageParts} (size : ℕ) → SpellsRows bytes fields p [] → u16_at bytes 46 ≡ 0
    → load_of (rows_in_bytes bytes fields) + size + 1 ≤ PAGE_ROOM → size < MAX_CHARGE → p.mirror.top + size + 2 + 2 * length p.mirror.slots ≤ 16376
tight_fits {p = p} size r tight room small =
    let sums = page_sums r in
    let slots = slots_by_rows r in
    let used = r.used in
    let garbage = r.page.is.head.garbage in
    let load = sums.load in
    elim (cases_lt 0 (length p.inner)) [
      | inl some ↦ omega arith
      | inr none ↦
          let empty : p.inner ≡ [] = none_left p.inner (omega arith) in
          let used_none = rw empty at used in
          omega arith
    ]

takes_rest : (g : Gaps) (size : ℕ) → size + 2 ≤ g.rest → takes g size ≡ true
takes_rest g size w = grind (arith, nat_tests)

pub tight_takes : {bytes : List ℕ} {fields : ℕ} {p : PageParts} (size : ℕ) → SpellsRows bytes fields p [] → u16_at bytes 46 ≡ 0
    → load_of (rows_in_bytes bytes fields) + size + 1 ≤ PAGE_ROOM → size < MAX_CHARGE → takes (gaps_in_bytes bytes fields) size ≡ true
tight_takes {bytes} {fields} size r tight room small =
    let fits = tight_fits size r tight room small in
    let rest = (gaps_are r).rest in
    takes_rest (gaps_in_bytes bytes fields) size (omega arith)

-- the row comes between all rows and none
abbrev pub can_insert : {bytes : List ℕ} {fields before : ℕ} {kind : RecordKind} {key : FieldList} {tail : List ℕ} {size : ℕ} → CanAppendRow bytes fields before kind key tail size
    → CanInsertRow bytes fields (rows_in_bytes bytes fields) [] before kind key tail size
can_insert {bytes} {fields} {size = size} c = record {
  page = c.page;
  rows = sym (append-nil (rows_in_bytes bytes fields));
  before_is = c.before_is;
  sound = c.sound;
  count = c.count;
  size_is = c.size_is;
  room = tight_takes size c.page.spells c.tight c.room c.small;
}

pub can_take_behind : {bytes : List ℕ} {fields before : ℕ} {kind : RecordKind} {key : FieldList} {tail : List ℕ} {size : ℕ} → (c : CanAppendRow bytes fields before kind key tail size)
    → CanTakeBehind bytes fields c.page.parts kind key tail size
can_take_behind {size = size} c = record { take = can_take (can_insert c); fits = tight_fits size c.page.spells c.tight c.room c.small }

-- the page with the row behind all others
pub row_appended : {b0 b1 b2 : List ℕ} {fields before : ℕ} {kind : RecordKind} {key : FieldList} {tail : List ℕ} {size at : ℕ}
    → (c : CanAppendRow b0 fields before kind key tail size)
    → HasOrigin b1 (enlarged c.page.parts.mirror (cell_of (record_from c.page.parts.mirror.top c.page.parts.mirror.count kind key tail))) c.page.parts.mirror.count at
    → (t : IsTaken b1 fields c.page.parts kind key tail at) → (r : RowGap c.page.parts (rows_in_bytes b0 fields) [] t.h)
    → Enters b2 (parts_with t).mirror t.free r.gap → AppendsInBytes b0 b2 fields (placed_row at key (body_of_kind kind tail))
row_appended c o t r e = record {
  inserts = row_inserted (can_insert c) t r e;
  tight = e.2.page.is.head.garbage ∙ sym t.new_at.is.head.garbage ∙ o.is.head.garbage ∙ sym c.page.spells.page.is.head.garbage ∙ c.tight;
}
