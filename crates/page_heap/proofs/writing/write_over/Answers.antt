use Rattle.std.proofs.Common.{◌≡◌, ◌∙◌, ℕ, List, sym, ap, subst, arith}
use Rattle.compact_record.specs.Record.{PlacedRecord}
use Rattle.compact_record.specs.Reading.{record_at}
use Rattle.compact_record.proofs.LawLemmas.{record_read, record_there}
use Rattle.page_mirror.specs.Mirror.{Mirror}
use Rattle.page_mirror.specs.Steps.{HasOrigin}
use Rattle.page_heap.specs.Heap.{cell_of, record_from, rewritten, FitsInPlace}
use Rattle.page_heap.proofs.CellLemmas.{record_in_page, number_in_page, sound_from}
use Rattle.page_heap.proofs.HeapLemmas.{page_rewritten}
use Rattle.page_heap.proofs.writing.write_over.Goals as goal

-- the number of the record that is read at the origin is its heap number
number_here : {bytes : List ℕ} {m : Mirror} {h at : ℕ} (fields : ℕ) (old : PlacedRecord) {r : PlacedRecord} (read : PlacedRecord) (number : ℕ)
    → HasOrigin bytes m h at → FitsInPlace bytes m fields h old r → read ≡ record_at bytes at fields → number ≡ read.heap_number → number ≡ h
number_here {bytes} {m} {h} {at} fields old read number o f is number_is =
    let there = record_in_page fields old o f.was f.was_sound f.count in
    let was = ap (λ (x : PlacedRecord). x.heap_number) (is ∙ record_read bytes at fields old there) in
    number_is ∙ was ∙ number_in_page h old f.is f.within f.was

pub view-requires : goal.view-requires
view-requires g c =
    let r = c.requires in
    record_there c.args.page.now c.args.at c.args.fields r.2 (record_in_page c.args.fields r.2 r.3 r.4.was r.4.was_sound r.4.count)

pub write-requires-clause-room : goal.write-requires-clause-room
write-requires-clause-room g c =
    let r = c.requires in
    let f = r.4 in
    let there = record_in_page c.args.fields r.2 r.3 f.was f.was_sound f.count in
    let fits = f.fits in
    let whole = there.stands.fits in
    omega arith

pub returns : goal.returns
returns g c = λ m h old o f.
    let number = number_here c.args.fields old c.view.result c.heap_number-heap_number.result o f c.view.ensures c.heap_number-heap_number.ensures in
    let r : PlacedRecord = record_from c.args.start h c.args.kind (g.A.Fields.fields_of c.args.key.now) c.args.tail.now in
    let writes = rw number at c.write.ensures.writes in
    subst (λ (at : ℕ). HasOrigin c.write.new.page (rewritten m h (cell_of r)) h at) (sym c.write.ensures.place) (page_rewritten h old r f writes)

pub write-requires-clause-record : goal.write-requires-clause-record
write-requires-clause-record g c =
    let r = c.requires in
    let f = r.4 in
    let number = number_here c.args.fields r.2 c.view.result c.heap_number-heap_number.result r.3 f c.view.ensures c.heap_number-heap_number.ensures in
    sound_from c.args.start c.heap_number-heap_number.result (number ∙ sym f.number) f.sound
