-- The room on a page: its load, its gaps, and how many records it may have.
use Rattle.std.proofs.Common.{◌≡◌, ℕ, zero, suc, ◌+◌, ◌-◌, ◌*◌, ◌<◌, ◌≤◌, true, false, List, [], ◌∷◌, length, nat_eq, sum_by, refl, sym, ap, subst, ◌∙◌, arith}
use Rattle.std.proofs.lemmas.List.Sums.{sum_by-append}
use Rattle.std.proofs.lemmas.Bool.Decides.{nat_tests}
use Rattle.std.specs.List.{AllByRecursion}
use Rattle.list_facts.proofs.Each.{each_right}
use Rattle.compact_record.specs.Reading.{IsRecordAt}
use Rattle.compact_record.proofs.LawLemmas.{record_size, record_read}
use Rattle.page_mirror.specs.Cells.{Cell, end_in}
use Rattle.page_mirror.specs.Mirror.{IsHeap, origin_of}
use Rattle.page_mirror.specs.Steps.{HasOrigin}
use Rattle.page_heap.proofs.CellLemmas.{record_in_page}
use Rattle.page_directory.specs.Groups.{records}
use Rattle.index_page.specs.declared.room.Gaps.{Gaps}
use Rattle.index_page.specs.Loads.{load_of}
use Rattle.index_page.specs.Refusals.{takes}
use Rattle.page_rows.specs.Reading.{rows_in_bytes}
use Rattle.page_rows.specs.Spelling.{free_origin, size_of_record, StandsAsRow, PageParts, SpellsRows}
use Rattle.page_rows.specs.Inserting.{head_gap, head_start, gaps_in_bytes}
use Rattle.page_rows.proofs.SpellingLemmas.{rows_are, whole_list}
use Rattle.page_rows.proofs.SumLemmas.{load_is, sizes_low}

-- each record behind the first two has five bytes at least
cells_low : {count top : ℕ} {cell : ℕ → Cell} → IsHeap count cell top → (k : ℕ) → k + 1 < count → 120 + 5 * k ≤ end_in (cell (k + 1))
cells_low {cell = cell} heap zero w =
    let end : end_in (cell 1) ≡ 120 = ap end_in heap.second in
    omega arith
cells_low {cell = cell} heap (suc k) w =
    let before = cells_low heap k (omega arith) in
    let apart = heap.apart (k + 1) (suc k + 1) (omega arith) w in
    omega arith

pub few_records : {count top : ℕ} {cell : ℕ → Cell} → IsHeap count cell top → top ≤ 16376 → count < 8000
few_records {count} heap room =
    let some = heap.some in
    let low = cells_low heap (count - 2) (omega arith) in
    let high = heap.high (count - 2 + 1) (omega arith) in
    omega arith

-- what is known of the sums of a page
pub record PageSums (bytes : List ℕ) (fields : ℕ) (p : PageParts) : Type 0 where
  pub load : load_of (rows_in_bytes bytes fields) ≡ sum_by (λ h. size_of_record (p.of h)) p.inner + length p.inner
  pub rows : p.mirror.rows ≡ length p.inner
  pub few : p.mirror.rows < 8000
  pub low : 5 * length p.inner ≤ sum_by (λ h. size_of_record (p.of h)) p.inner

pub page_sums : {bytes : List ℕ} {fields : ℕ} {p : PageParts} {loose : List ℕ} → SpellsRows bytes fields p loose → PageSums bytes fields p
page_sums {bytes} {fields} {p} {loose} r =
    let rows = (whole_list r).rows in
    let low = sizes_low p.of p.inner in
    let room = r.page.is.room in
    let most = sum_by-append (λ h. size_of_record (p.of h)) loose p.inner in
    let used = r.used in
    record {
      load = ap load_of (rows_are r) ∙ load_is p p.inner;
      rows = rows;
      few = omega arith;
      low = low;
    }

-- the free list's head, where there is one
pub free_some : {bytes : List ℕ} {fields : ℕ} {p : PageParts} → SpellsRows bytes fields p [] → (p.mirror.free ≡ 0 → ⊥) → (h : ℕ) × (rest : List ℕ) × (p.free ≡ h ∷ rest)
free_some {p = p} r some = go p.free refl
  where
    go : (free : List ℕ) → p.free ≡ free → (h : ℕ) × (rest : List ℕ) × (p.free ≡ h ∷ rest)
    go [] e = absurd (some (r.free_from ∙ ap (free_origin p.mirror) e))
    go (h ∷ rest) e = (h, rest, e)

pub record FreeThere (bytes : List ℕ) (fields : ℕ) (p : PageParts) (h : ℕ) : Type 0 where
  pub at : HasOrigin bytes p.mirror h p.mirror.free
  pub stands : StandsAsRow fields p.mirror p.of h
  pub is : IsRecordAt bytes p.mirror.free fields (p.of h)
  pub gap : head_gap bytes fields p.mirror.free ≡ size_of_record (p.of h)
  pub start : head_start bytes fields p.mirror.free ≡ (p.of h).start

pub free_there : {bytes : List ℕ} {fields : ℕ} {p : PageParts} (h : ℕ) (rest : List ℕ) → SpellsRows bytes fields p [] → p.free ≡ h ∷ rest → FreeThere bytes fields p h
free_there {bytes} {fields} {p} h rest r e =
    let m = p.mirror in
    let inside : AllByRecursion (λ k. k < m.count) (h ∷ rest) = subst (AllByRecursion (λ k. k < m.count)) e (each_right (λ k. k < m.count) (records p.groups) p.free r.page.order.inside) in
    let rows : AllByRecursion (StandsAsRow fields m p.of) (h ∷ rest) = subst (AllByRecursion (StandsAsRow fields m p.of)) e (each_right (StandsAsRow fields m p.of) p.inner p.free r.rows) in
    let s = rows.0 in
    let placed : origin_of m h ≡ m.free = sym (r.free_from ∙ ap (free_origin m) e) in
    let at : HasOrigin bytes m h m.free = record { is = r.page.is; within = inside.0; placed = placed } in
    let is = record_in_page fields (p.of h) at s.cell s.sound s.count in
    let read = record_read bytes m.free fields (p.of h) is in
    let some : nat_eq m.free 0 ≡ false = grind (arith, nat_tests, placed) in
    let size = record_size (p.of h) s.sound in
    record {
      at = at;
      stands = s;
      is = is;
      gap = rw (some, read) (omega arith);
      start = rw (some, read) refl;
    }

pub no_gap : {bytes : List ℕ} {fields : ℕ} {p : PageParts} → SpellsRows bytes fields p [] → p.mirror.free ≡ 0 → head_gap bytes fields p.mirror.free ≡ 0
no_gap r e = rw e refl

-- the gaps by the parts of the page
pub record GapsAre (bytes : List ℕ) (fields : ℕ) (p : PageParts) : Type 0 where
  pub head : (gaps_in_bytes bytes fields).head ≡ head_gap bytes fields p.mirror.free
  pub rest : (gaps_in_bytes bytes fields).rest + 2 * length p.mirror.slots + p.mirror.top ≡ 16376

pub gaps_are : {bytes : List ℕ} {fields : ℕ} {p : PageParts} → SpellsRows bytes fields p [] → GapsAre bytes fields p
gaps_are {bytes} {fields} {p} r =
    let room = r.page.is.room in
    let head = r.page.is.head in
    record {
      head = ap (head_gap bytes fields) head.first_free;
      rest = omega (arith, head.dir_slots, head.heap_top);
    }

-- what isn't taken at the free list's head is taken behind all records
pub takes_behind : (g : Gaps) (size : ℕ) → takes g size ≡ true → (size ≤ g.head → 2 ≤ g.rest → ⊥) → size + 2 ≤ g.rest
takes_behind g size t other = grind (arith, nat_tests)
