-- The rows of a page with one less.
use Rattle.std.proofs.Common.{◌≡◌, ℕ, ◌+◌, ◌-◌, ◌*◌, ◌<◌, Bool, true, false, cond, List, [], ◌∷◌, ◌++◌, length, length-append, map, refl, sym, ap, ap₂, subst, ◌∙◌, arith}
use Rattle.std.proofs.lemmas.List.{map-append, length-map}
use Rattle.std.specs.List.{AllByRecursion}
use Rattle.list_facts.proofs.Each.{each_left, each_right, each_append}
use Rattle.compact_record.specs.Record.{finish}
use Rattle.compact_record.specs.Reading.{HasRecord, record_at}
use Rattle.compact_record.proofs.LawLemmas.{record_there, record_read, record_size}
use Rattle.page_mirror.specs.Mirror.{origin_of}
use Rattle.page_mirror.specs.Steps.{HasOrigin}
use Rattle.page_mirror.proofs.HeadLemmas.{still}
use Rattle.page_heap.proofs.CellLemmas.{record_in_page}
use Rattle.page_directory.specs.Groups.{records, owners}
use Rattle.page_directory.proofs.GroupLemmas.{count_owners}
use Rattle.page_directory.specs.Sizes.{group_sizes}
use Rattle.page_list.specs.Leaving.{Between, CanLeave, LeavesList, linked_out, slot_goes}
use Rattle.page_list.proofs.AroundLemmas.{apart_from}
use Rattle.index_page.specs.Rows.{Row}
use Rattle.index_page.specs.Loads.{charge_of}
use Rattle.page_rows.specs.Spelling.{size_of_record, StandsAsRow, PageParts, SpellsRows}
use Rattle.index_page.specs.declared.room.Gaps.{Gaps}
use Rattle.page_rows.specs.Slots.{sizes_in_bytes}
use Rattle.page_rows.specs.Inserting.{gaps_in_bytes}
use Rattle.page_rows.specs.Deleting.{IsLoose, freed_parts, CanDeleteRow, DeletesInBytes, gaps_after}
use Rattle.page_rows.proofs.SizeLemmas.{sizes_told}
use Rattle.page_rows.proofs.SpellingLemmas.{row_of, rows_are, whole_list}
use Rattle.page_rows.proofs.SumLemmas.{charge_of_record}
use Rattle.page_rows.proofs.RoomLemmas.{free_there, gaps_are}
use Rattle.page_rows.proofs.InsertRowLemmas.{map_cut, before_gap, first_behind}
use Rattle.page_rows.proofs.LeftLemmas.{BetweenEnds, left_parts, list_between, left_spells}

-- the element of the first of some
map_first : {X Y : Type 0} (f : X → Y) (xs : List X) (y : Y) (ys : List Y) → map f xs ≡ y ∷ ys → (x : X) × (rest : List X) × (xs ≡ x ∷ rest) × (f x ≡ y) × (map f rest ≡ ys)
map_first f [] y ys e = absurd cc
map_first f (x ∷ xs) y ys e = (x, xs, refl, cc, cc)

-- where the row's record stands
pub record RowBetween (bytes : List ℕ) (fields : ℕ) (p : PageParts) (left : List Row) (row : Row) (right : List Row) (place : ℕ) : Type 0 where
  pub low : List ℕ
  pub high : List ℕ
  pub b : Between
  pub inner : p.inner ≡ low ++ b.here ∷ high
  pub left_is : map (row_of p) low ≡ left
  pub row_is : row_of p b.here ≡ row
  pub right_is : map (row_of p) high ≡ right
  pub ends : BetweenEnds low high b
  pub here_at : HasOrigin bytes p.mirror b.here place
  pub stands : StandsAsRow fields p.mirror p.of b.here

pub row_between : {bytes : List ℕ} {fields : ℕ} {left right : List Row} {row : Row} {place : ℕ} (c : CanDeleteRow bytes fields left row right place)
    → RowBetween bytes fields c.page.parts left row right place
row_between {bytes} {fields} {left} {right} {row} {place} c =
    let p = c.page.parts in
    let m = p.mirror in
    let s = c.page.spells in
    let cut = map_cut (row_of p) p.inner left (row ∷ right) (sym (rows_are s) ∙ c.rows) in
    let first = map_first (row_of p) cut.high row right cut.right in
    let low = cut.low in
    let h = first.0 in
    let high = first.1 in
    let inner : p.inner ≡ low ++ h ∷ high = cut.is ∙ ap (λ (xs : List ℕ). low ++ xs) first.2 in
    let before = before_gap p s.page.is low in
    let behind = first_behind high in
    let inside = subst (AllByRecursion (λ k. k < m.count)) inner (each_left (λ k. k < m.count) p.inner (1 ∷ []) (whole_list s).inside.1) in
    let rows = subst (AllByRecursion (StandsAsRow fields m p.of)) inner (each_left (StandsAsRow fields m p.of) p.inner p.free s.rows) in
    record {
      low = low;
      high = high;
      b = record { low = before.front; p = before.here; here = h; n = behind.0; high = behind.1 };
      inner = inner;
      left_is = cut.left;
      row_is = first.3;
      right_is = first.4;
      ends = record { before = before.is; behind = behind.2 };
      here_at = record { is = s.page.is; within = (each_right (λ k. k < m.count) low (h ∷ high) inside).0; placed = ap (λ (r : Row). r.place) first.3 ∙ c.place_is };
      stands = (each_right (StandsAsRow fields m p.of) low (h ∷ high) rows).0;
    }

pub can_leave : {bytes : List ℕ} {fields : ℕ} {left right : List Row} {row : Row} {place : ℕ} (c : CanDeleteRow bytes fields left row right place)
    → (r : RowBetween bytes fields c.page.parts left row right place) → CanLeave bytes c.page.parts.mirror c.page.parts.groups c.page.parts.free r.b place
can_leave c r =
    let s = c.page.spells in
    record { page = s.page; sizes = s.sizes; list = list_between r.b r.low r.high s r.inner r.ends; here_at = r.here_at }

-- the record is the one that is read there
pub record_between : {bytes : List ℕ} {fields : ℕ} {p : PageParts} {left right : List Row} {row : Row} {place : ℕ} → RowBetween bytes fields p left row right place
    → HasRecord bytes place fields
record_between {bytes} {fields} {p} {place = place} r =
    record_there bytes place fields (p.of r.b.here) (record_in_page fields (p.of r.b.here) r.here_at r.stands.cell r.stands.sound r.stands.count)

-- its size is told by where it begins and ends
pub size_between : {bytes : List ℕ} {fields : ℕ} {p : PageParts} {left right : List Row} {row : Row} {place start end : ℕ} (r : RowBetween bytes fields p left row right place)
    → start ≡ (record_at bytes place fields).start → end ≡ finish (record_at bytes place fields) → end ≡ start + size_of_record (p.of r.b.here)
size_between {bytes} {fields} {p} {place = place} {start} {end} r start_is end_is =
    let of = p.of r.b.here in
    let read = record_read bytes place fields of (record_in_page fields of r.here_at r.stands.cell r.stands.sound r.stands.count) in
    let first : start ≡ of.start = start_is ∙ ap (λ x. x.start) read in
    let last : end ≡ finish of = end_is ∙ ap finish read in
    omega (arith, first, last, record_size of r.stands.sound)

-- the parts of the page without the record in its list
abbrev pub parts_left : {b0 b1 : List ℕ} {fields : ℕ} {p : PageParts} {left right : List Row} {row : Row} {place : ℕ} (r : RowBetween b0 fields p left row right place)
    → LeavesList b1 p.mirror p.groups p.free r.b → PageParts
parts_left {p = p} r l = left_parts p r.b r.low r.high l.0 l.1

pub is_loose : {b0 b1 : List ℕ} {fields : ℕ} {left right : List Row} {row : Row} {place : ℕ} (start end : ℕ) (c : CanDeleteRow b0 fields left row right place)
    → (r : RowBetween b0 fields c.page.parts left row right place) → (l : LeavesList b1 c.page.parts.mirror c.page.parts.groups c.page.parts.free r.b)
    → end ≡ start + size_of_record (c.page.parts.of r.b.here) → IsLoose b1 fields (parts_left r l) r.b.here place (end - start)
is_loose {b0} {b1} {fields} {left} {right} {row} {place} start end c r l size =
    let p = c.page.parts in
    let b = r.b in
    let differ : ℕ → Type 0 = λ k. k ≡ b.here → ⊥ in
    let a = apart_from (can_leave c r) in
    let in_list : AllByRecursion differ (records l.1) = subst (AllByRecursion differ) (sym l.2.list) (each_append differ (b.low ++ b.p ∷ []) (b.n ∷ b.high) a.before a.after) in
    record {
      spells = left_spells b r.low r.high l.0 l.1 c.page.spells r.inner r.ends l.2;
      apart = each_append differ (records l.1) p.free in_list a.freed;
      loose_at = still {n = linked_out p.mirror b l.0 (owners l.1)} r.here_at l.2.page.is refl refl;
      size_is = omega (arith, size);
    }

-- the row's charge is its record's size and one byte
charged : {bytes : List ℕ} {fields : ℕ} {p : PageParts} {left right : List Row} {row : Row} {place : ℕ} (r : RowBetween bytes fields p left row right place)
    → charge_of row.key row.body ≡ size_of_record (p.of r.b.here) + 1
charged {p = p} r = subst (λ (y : Row). charge_of y.key y.body ≡ size_of_record (p.of r.b.here) + 1) r.row_is (charge_of_record (origin_of p.mirror r.b.here) (p.of r.b.here))

-- the slots and the number of the row tell whether its slot goes
goes_told : {bytes : List ℕ} {fields : ℕ} {left right : List Row} {row : Row} {place : ℕ} (c : CanDeleteRow bytes fields left row right place) (r : RowBetween bytes fields c.page.parts left row right place)
    → slot_goes (group_sizes c.page.parts.groups) (length r.b.low + 1) ≡ slot_goes (sizes_in_bytes bytes) (length left + 1)
goes_told {left = left} c r =
    let low : length r.b.low ≡ length left =
    omega (arith, length-append r.b.low (r.b.p ∷ []), ap length r.ends.before, ap length r.left_is, length-map r.low (row_of c.page.parts)) in
    ap₂ (λ (ns : List ℕ) (k : ℕ). slot_goes ns (k + 1)) (sym (sizes_told c.page.spells.page)) low

-- the gaps where such a record is freed
pub gaps_told : {bytes : List ℕ} {fields : ℕ} {left right : List Row} {row : Row} {place : ℕ} (c : CanDeleteRow bytes fields left row right place) (r : RowBetween bytes fields c.page.parts left row right place)
    (gaps : Gaps) → gaps.head ≡ size_of_record (c.page.parts.of r.b.here)
    → gaps.rest ≡ (gaps_in_bytes bytes fields).rest + cond (slot_goes (group_sizes c.page.parts.groups) (length r.b.low + 1)) 2 0
    → gaps ≡ gaps_after (gaps_in_bytes bytes fields) (sizes_in_bytes bytes) (length left) (charge_of row.key row.body - 1)
gaps_told {bytes} {fields} {row = row} c r gaps size rest =
    let before = gaps_in_bytes bytes fields in
    let head : gaps.head ≡ charge_of row.key row.body - 1 = omega (arith, size, charged r) in
    let last = rest ∙ ap (λ (t : Bool). before.rest + cond t 2 0) (goes_told c r) in
    λ i. record { head = head i; rest = last i }

two_bytes : (t : Bool) → cond t 2 0 ≡ 2 * cond t 1 0
two_bytes true = refl
two_bytes false = refl

-- the page without the row
pub row_deleted : {b0 b1 b2 : List ℕ} {fields : ℕ} {left right : List Row} {row : Row} {place : ℕ} (c : CanDeleteRow b0 fields left row right place)
    → (r : RowBetween b0 fields c.page.parts left row right place) → (l : LeavesList b1 c.page.parts.mirror c.page.parts.groups c.page.parts.free r.b)
    → SpellsRows b2 fields (freed_parts (parts_left r l) r.b.here) [] → DeletesInBytes b0 b2 fields left row right
row_deleted {b0} {b1} {b2} {fields} {left} {right} {row} {place} c r l s =
    let p = c.page.parts in
    let old = c.page.spells in
    let h = r.b.here in
    let final = freed_parts (parts_left r l) h in
    let before = gaps_are old in
    let after = gaps_are s in
    let there = free_there h p.free s refl in
    let goes = slot_goes (group_sizes p.groups) (length r.b.low + 1) in
    let slots : length l.1 + cond goes 1 0 ≡ length p.mirror.slots = l.2.slots in
    record {
      page = record { parts = final; spells = s };
      rows = rows_are s ∙ map-append (row_of p) r.low r.high ∙ ap₂ (λ (xs ys : List Row). xs ++ ys) r.left_is r.right_is;
      gaps = gaps_told c r (gaps_in_bytes b2 fields) (after.head ∙ there.gap) (omega (arith, before.rest, after.rest, slots, count_owners l.1, two_bytes goes));
      low = λ k w. s.page.is.fixed.front k w ∙ sym (old.page.is.fixed.front k w);
      high = λ k v w. s.page.is.fixed.back k v w ∙ sym (old.page.is.fixed.back k v w);
    }
