use Rattle.std.proofs.Common.{◌≡◌, ◌+◌, ◌<◌, ◌≤◌, ◌∙◌, ℕ, length, sym, subst, arith}
use Rattle.compact_record.specs.declared.TheConstants.{HEAP_NUMBERS}
use Rattle.compact_record.specs.Record.{PlacedRecord, finish}
use Rattle.compact_record.proofs.LawLemmas.{record_size}
use Rattle.page_mirror.specs.Steps.{HasOrigin}
use Rattle.page_heap.specs.Heap.{cell_of, record_from, enlarged}
use Rattle.page_heap.proofs.CellLemmas.{behind_in_page, sound_from}
use Rattle.page_heap.proofs.HeapLemmas.{page_enlarged}
use Rattle.page_heap.proofs.writing.write_behind.Goals as goal

more_below : (number count : ℕ) → count < HEAP_NUMBERS → number ≡ count → number + 1 < 32768
more_below number count few is = omega arith

more_fits : (number count : ℕ) → count < HEAP_NUMBERS → number ≡ count → number + 1 < 65536
more_fits number count few is = omega arith

pub overflow_add-top : goal.overflow_add-top
overflow_add-top g c =
    let m = c.requires.there.0 in
    let f = c.requires.there.1 in
    let r : PlacedRecord = record_from m.top m.count c.args.kind (g.A.Fields.fields_of c.args.key.now) c.args.tail.now in
    let fits = f.fits in
    omega (arith, c.heap_top-top.ensures m f.is, c.requires.size, record_size r f.sound)

pub returns : goal.returns
returns g c = λ m f.
    let top = c.heap_top-top.ensures m f.is in
    let count = c.heap_count-heap_number.ensures m f.is in
    let r : PlacedRecord = record_from m.top m.count c.args.kind (g.A.Fields.fields_of c.args.key.now) c.args.tail.now in
    let writes = rw (top, count) at c.write-place.ensures.writes in
    let place = rw top at c.write-place.ensures.place in
    let end = c.put_heap_end.ensures in
    subst (λ (at : ℕ). HasOrigin c.put_heap_end.new.page (enlarged m (cell_of r)) m.count at) (sym place)
    (page_enlarged r f writes end.kept (end.top ∙ omega (arith, top, c.requires.size, record_size r f.sound)) (end.count ∙ omega (arith, count)))

pub put_heap_end-requires-clause-small : goal.put_heap_end-requires-clause-small
put_heap_end-requires-clause-small g c =
    let m = c.requires.there.0 in
    let f = c.requires.there.1 in
    more_below c.heap_count-heap_number.result m.count f.sound.number (c.heap_count-heap_number.ensures m f.is)

pub overflow_add-heap_number : goal.overflow_add-heap_number
overflow_add-heap_number g c =
    let m = c.requires.there.0 in
    let f = c.requires.there.1 in
    record { fits = more_fits c.heap_count-heap_number.result m.count f.sound.number (c.heap_count-heap_number.ensures m f.is) }

pub write-place-requires-clause-record : goal.write-place-requires-clause-record
write-place-requires-clause-record g c =
    let m = c.requires.there.0 in
    let f = c.requires.there.1 in
    sound_from c.heap_top-top.result c.heap_count-heap_number.result (c.heap_count-heap_number.ensures m f.is) f.sound

pub write-place-requires-clause-room : goal.write-place-requires-clause-room
write-place-requires-clause-room g c =
    let m = c.requires.there.0 in
    let f = c.requires.there.1 in
    let from : ℕ → PlacedRecord = λ top. record_from top c.heap_count-heap_number.result c.args.kind (g.A.Fields.fields_of c.args.key.now) c.args.tail.now in
    subst (λ (top : ℕ). finish (from top) ≤ length c.args.page.now) (sym (c.heap_top-top.ensures m f.is)) (behind_in_page f)
