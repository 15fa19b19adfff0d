-- A page after a record was written into it.
use Rattle.std.proofs.Common.{◌≡◌, ℕ, ◌+◌, ◌-◌, ◌*◌, ◌<◌, ◌≤◌, List, slice_index, sym, ap, subst, ◌∙◌, arith, inl, inr}
use Rattle.std.proofs.lemmas.Bool.{cases_eq}
use Rattle.compact_record.specs.Bytes.{u16_at, SameOutside}
use Rattle.compact_record.specs.Record.{PlacedRecord, WritesRecord, origin, finish}
use Rattle.compact_record.proofs.BytesLemmas.{u16_kept}
use Rattle.page_mirror.specs.Cells.{Cell, origin_in, end_in}
use Rattle.page_mirror.specs.Mirror.{Mirror, Mirrors, HasCell, IsHeap, changed, origin_of}
use Rattle.page_mirror.specs.Steps.{HasOrigin}
use Rattle.page_mirror.proofs.KeptLemmas.{changed-same, changed-other, starts_above, top_above, cell_kept, cells_apart, head_kept, fixed_kept}
use Rattle.page_heap.specs.Heap.{cell_of, enlarged, rewritten, FitsBehind, FitsInPlace}
use Rattle.page_heap.proofs.CellLemmas.{cell_end, cell_written, status_small}

-- the records with one more behind them
heap_enlarged : {count top : ℕ} {cell : ℕ → Cell} (r : PlacedRecord) → IsHeap count cell top → r.start ≡ top → r.heap_number ≡ count
    → IsHeap (count + 1) (changed cell count (cell_of r)) (end_in (cell_of r))
heap_enlarged {count} {top} {cell} r heap start number =
    let c = cell_of r in
    let some = heap.some in
    record {
      some = omega arith;
      first = changed-other cell count c 0 (λ e. omega arith) ∙ heap.first;
      second = changed-other cell count c 1 (λ e. omega arith) ∙ heap.second;
      numbered = λ h w. elim (cases_eq h count) [
        | inl is ↦ rw (is, changed-same cell count c) (omega (arith, number, status_small r.kind))
        | inr other ↦ rw (changed-other cell count c h other) (heap.numbered h (omega (arith, other)))
      ];
      apart = λ h k b w. elim (cases_eq k count) [
        | inl is ↦ rw (is, changed-same cell count c, changed-other cell count c h (λ e. omega arith)) (let e = heap.high h (omega arith) in omega arith)
        | inr other ↦ rw (changed-other cell count c h (λ e. omega (arith, other)), changed-other cell count c k other) (heap.apart h k b (omega (arith, other)))
      ];
      high = λ h w. elim (cases_eq h count) [
        | inl is ↦ rw (is, changed-same cell count c) (omega arith)
        | inr other ↦ rw (changed-other cell count c h other) (let e = heap.high h (omega (arith, other)) in omega arith)
      ];
    }

-- the record behind all others, and the two numbers of the head
pub page_enlarged : {b0 b1 b2 : List ℕ} {m : Mirror} (r : PlacedRecord) → FitsBehind b0 m r → WritesRecord b0 b1 r → SameOutside b1 b2 40 44
    → u16_at b2 40 ≡ finish r → u16_at b2 42 ≡ 32768 + (m.count + 1) → HasOrigin b2 (enlarged m (cell_of r)) m.count (origin r)
page_enlarged {b0} {b1} {b2} {m} r f w head top_is count_is =
    let c = cell_of r in
    let p = f.is in
    let same = w.kept in
    let start = f.start in
    let fits = f.fits in
    let end = cell_end r in
    let low = top_above p.heap in
    let room = p.room in
    let old_cell : (h : ℕ) → h < m.count → changed m.cell m.count c h ≡ m.cell h = λ h l. changed-other m.cell m.count c h (λ e. omega arith) in
    let old_origin : (h : ℕ) → h < m.count → origin_in (changed m.cell m.count c h) ≡ origin_of m h = λ h l. ap origin_in (old_cell h l) in
    let new_origin : origin_in (changed m.cell m.count c m.count) ≡ origin r = ap origin_in (changed-same m.cell m.count c) in
    let numbers = head_kept same (omega arith) p.head in
    let around = fixed_kept same (omega arith) (omega arith) p.fixed in
    let mine : HasCell b2 c (origin r) 0 = cell_kept c head (inr (omega arith)) (cell_written r w (omega (arith, same.len, p.len))) in
    let is : Mirrors b2 (enlarged m c) = record {
      len = head.len ∙ same.len ∙ p.len;
      heap = heap_enlarged r p.heap start f.number;
      head = record {
        dir_slots = u16_kept head 38 (inl (omega arith)) ∙ numbers.dir_slots;
        heap_top = top_is ∙ sym end;
        n_heap = count_is;
        first_free = u16_kept head 44 (inr (omega arith)) ∙ numbers.first_free;
        garbage = u16_kept head 46 (inr (omega arith)) ∙ numbers.garbage;
        n_recs = u16_kept head 54 (inr (omega arith)) ∙ numbers.n_recs;
      };
      fixed = record {
        front = λ k h. head.below k (omega arith) ∙ around.front k h;
        middle = λ k g h. head.above k (omega arith) ∙ around.middle k g h;
        back = λ k g h. head.above k (omega arith) ∙ around.back k g h;
        end = λ k h. head.above k (omega arith) ∙ around.end k h;
      };
      leads = λ h l. elim (cases_eq h m.count) [
        | inl e ↦ rw (e, changed-same m.next m.count m.count) (omega arith)
        | inr other ↦ rw (changed-other m.next m.count m.count h other) (let t = p.leads h (omega (arith, other)) in omega arith)
      ];
      cells = λ h l. elim (cases_eq h m.count) [
        | inl e ↦ subst (λ (i : ℕ). HasCell b2 (changed m.cell m.count c i) (origin_in (changed m.cell m.count c (changed m.next m.count m.count i))) (changed m.owned m.count 0 i)) (sym e)
            (rw (changed-same m.next m.count m.count, changed-same m.owned m.count 0, changed-same m.cell m.count c) mine)
        | inr other ↦
            let l' : h < m.count = omega (arith, other) in
            let above = starts_above p.heap h l' in
            let high = p.heap.high h l' in
            rw (changed-other m.cell m.count c h other, changed-other m.next m.count m.count h other, changed-other m.owned m.count 0 h other, old_cell (m.next h) (p.leads h l'))
            (cell_kept (m.cell h) head (inr (omega arith)) (cell_kept (m.cell h) same (inl (omega arith)) (p.cells h l')))
      ];
      names = λ s l. let t = p.names s l in omega arith;
      slots = λ s l. rw (old_cell (slice_index m.slots s) (p.names s l))
          (u16_kept head (16374 - 2 * s) (inr (omega arith)) ∙ u16_kept same (16374 - 2 * s) (inr (omega arith)) ∙ p.slots s l);
      room = omega arith;
      unused = λ k g l. head.above k (omega arith) ∙ same.above k (omega arith) ∙ p.unused k (omega arith) l;
    } in
    record { is = is; within = omega arith; placed = new_origin }

-- the records with another in place of one
heap_rewritten : {count top : ℕ} {cell : ℕ → Cell} (h : ℕ) (r : PlacedRecord) → IsHeap count cell top → 2 ≤ h → h < count → r.start ≡ (cell h).start
    → end_in (cell_of r) ≤ end_in (cell h) → r.heap_number ≡ h → IsHeap count (changed cell h (cell_of r)) top
heap_rewritten {count} {top} {cell} h r heap behind within start fits number =
    let c = cell_of r in
    record {
      some = heap.some;
      first = changed-other cell h c 0 (λ e. omega arith) ∙ heap.first;
      second = changed-other cell h c 1 (λ e. omega arith) ∙ heap.second;
      numbered = λ k w. elim (cases_eq k h) [
        | inl is ↦ rw (is, changed-same cell h c) (omega (arith, number, status_small r.kind))
        | inr other ↦ rw (changed-other cell h c k other) (heap.numbered k w)
      ];
      apart = λ j k b w. elim (cases_eq k h) [
        | inl is ↦
            let at : j < h = omega arith in
            rw (is, changed-same cell h c, changed-other cell h c j (λ e. omega arith)) (let e = heap.apart j h at within in omega arith)
        | inr other ↦ elim (cases_eq j h) [
          | inl is ↦
              let at : h < k = omega arith in
              rw (is, changed-same cell h c, changed-other cell h c k other) (let e = heap.apart h k at w in omega arith)
          | inr apart ↦ rw (changed-other cell h c j apart, changed-other cell h c k other) (heap.apart j k b w)
        ]
      ];
      high = λ k w. elim (cases_eq k h) [
        | inl is ↦ rw (is, changed-same cell h c) (let e = heap.high h within in omega arith)
        | inr other ↦ rw (changed-other cell h c k other) (heap.high k w)
      ];
    }

-- the record in place of another
pub page_rewritten : {b0 b1 : List ℕ} {m : Mirror} {fields : ℕ} (h : ℕ) (old r : PlacedRecord) → FitsInPlace b0 m fields h old r → WritesRecord b0 b1 r
    → HasOrigin b1 (rewritten m h (cell_of r)) h (origin r)
page_rewritten {b0} {b1} {m} h old r f w =
    let c = cell_of r in
    let p = f.is in
    let same = w.kept in
    let within = f.within in
    let end = cell_end r in
    let old_end : end_in (m.cell h) ≡ finish old = ap end_in f.was ∙ cell_end old in
    let old_start : (m.cell h).start ≡ old.start = ap (λ (x : Cell). x.start) f.was in
    let start = f.start in
    let fits = f.fits in
    let low = starts_above p.heap h within in
    let high = p.heap.high h within in
    let room = p.room in
    let kept_cell : (k : ℕ) → (k ≡ h → ⊥) → changed m.cell h c k ≡ m.cell k = λ k other. changed-other m.cell h c k other in
    let is : Mirrors b1 (rewritten m h c) = record {
      len = same.len ∙ p.len;
      heap = heap_rewritten h r p.heap f.behind within (start ∙ sym old_start) (omega arith) f.number;
      head = head_kept same (omega arith) p.head;
      fixed = fixed_kept same (omega arith) (omega arith) p.fixed;
      leads = λ k l. elim (cases_eq k h) [
        | inl e ↦ rw (e, changed-same m.next h h) within
        | inr other ↦ rw (changed-other m.next h h k other) (p.leads k l)
      ];
      cells = λ k l. elim (cases_eq k h) [
        | inl e ↦ subst (λ (i : ℕ). HasCell b1 (changed m.cell h c i) (origin_in (changed m.cell h c (changed m.next h h i))) (changed m.owned h 0 i)) (sym e)
            (rw (changed-same m.next h h, changed-same m.owned h 0, changed-same m.cell h c) (cell_written r w (omega (arith, same.len, p.len))))
        | inr other ↦
            rw (changed-other m.next h h k other, kept_cell k other, changed-other m.owned h 0 k other, kept_cell (m.next k) (f.unled k l other))
            (cell_kept (m.cell k) same (elim (cells_apart p.heap k h l within other) [ inl below ↦ inl (omega arith) | inr above ↦ inr (omega arith) ]) (p.cells k l))
      ];
      names = p.names;
      slots = λ s l. rw (kept_cell (slice_index m.slots s) (f.unnamed s l)) (u16_kept same (16374 - 2 * s) (inr (omega arith)) ∙ p.slots s l);
      room = room;
      unused = λ k g l. same.above k (omega arith) ∙ p.unused k g l;
    } in
    record { is = is; within = within; placed = ap origin_in (changed-same m.cell h c) }
