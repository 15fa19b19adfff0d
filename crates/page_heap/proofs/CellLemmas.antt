-- A record as the bytes that it is.
use Rattle.std.proofs.Common.{◌≡◌, ℕ, ◌+◌, ◌%◌, ◌<◌, ◌≤◌, List, length, sym, ap, subst, ◌∙◌, arith, length-append}
use Rattle.std.specs.List.{concat}
use Rattle.compact_record.specs.declared.kind.RecordKind.{RecordKind}
use Rattle.compact_record.specs.declared.kind.RecordKind.TheVariants.{Row, Pointer, LeftmostPointer}
use Rattle.compact_record.specs.Kind.{status_bits}
use Rattle.compact_record.specs.Record.{PlacedRecord, IsRecord, Stands, WritesRecord, origin, finish}
use Rattle.compact_record.specs.Reading.{IsRecordAt}
use Rattle.compact_record.proofs.PartLemmas.{length-concat}
use Rattle.page_mirror.specs.Cells.{Cell, StandsHere, origin_in, end_in}
use Rattle.page_mirror.specs.Mirror.{Mirror, Mirrors, HasCell}
use Rattle.page_mirror.specs.Steps.{HasOrigin}
use Rattle.page_heap.specs.Heap.{cell_of, record_from, FitsBehind}

-- it ends where the record ends
pub cell_end : (r : PlacedRecord) → end_in (cell_of r) ≡ finish r
cell_end r = omega (arith, length-append (concat r.key) r.tail, length-concat r.key)

pub cell_stands : {bytes : List ℕ} (r : PlacedRecord) → Stands bytes r → StandsHere bytes (cell_of r)
cell_stands r s =
    let fits = s.fits in
    record {
      fits = omega (arith, cell_end r);
      lengths = s.lengths;
      info = s.info;
      number = s.number;
      body = s.body;
    }

pub record_stands : {bytes : List ℕ} (r : PlacedRecord) → StandsHere bytes (cell_of r) → Stands bytes r
record_stands r s =
    let fits = s.fits in
    record {
      fits = omega (arith, cell_end r);
      lengths = s.lengths;
      info = s.info;
      number = s.number;
      body = s.body;
    }

-- a record that was just written leads to itself, and owns none
pub cell_written : {old new : List ℕ} (r : PlacedRecord) → WritesRecord old new r → length new ≤ 65535 → HasCell new (cell_of r) (origin r) 0
cell_written r w small =
    let fits = w.stands.fits in
    record {
      stands = cell_stands r w.stands;
      leads = ap (λ (x : ℕ). (origin r + x) % 65536) w.next ∙ omega arith;
      owns = w.owned;
    }

-- the record of a heap number is read at its origin
pub record_in_page : {bytes : List ℕ} {m : Mirror} {h at : ℕ} (fields : ℕ) (r : PlacedRecord) → HasOrigin bytes m h at → m.cell h ≡ cell_of r → IsRecord r
    → length r.key ≡ fields → IsRecordAt bytes at fields r
record_in_page {bytes} {m} {h} fields r o is sound count = record {
  stands = record_stands r (subst (StandsHere bytes) is (o.is.cells h o.within).stands);
  sound = sound;
  here = ap origin_in (sym is) ∙ o.placed;
  count = count;
}

-- the status is below two
pub status_small : (kind : RecordKind) → status_bits kind ≤ 1
status_small Row = omega arith
status_small Pointer = omega arith
status_small LeftmostPointer = omega arith

-- its number is its heap number
pub number_in_page : {bytes : List ℕ} {m : Mirror} (h : ℕ) (r : PlacedRecord) → Mirrors bytes m → h < m.count → m.cell h ≡ cell_of r → r.heap_number ≡ h
number_in_page h r is within e =
    let numbered = is.heap.numbered h within in
    let number = ap (λ (c : Cell). c.number) e in
    omega (arith, status_small r.kind, numbered, number)

-- it is as sound under an equal heap number, and from another byte on
pub sound_from : {r : PlacedRecord} (start number : ℕ) → number ≡ r.heap_number → IsRecord r → IsRecord (record_from start number r.kind r.key r.tail)
sound_from start number is s = record {
  number = rw is s.number;
  key = s.key;
  tail = s.tail;
  child = s.child;
}

-- a record that goes behind all others is within the page
pub behind_in_page : {bytes : List ℕ} {m : Mirror} {r : PlacedRecord} → FitsBehind bytes m r → finish r ≤ length bytes
behind_in_page f =
    let fits = f.fits in
    omega (arith, f.is.len)
