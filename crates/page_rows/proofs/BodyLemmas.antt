-- A record whose body was written anew, with as many bytes.
use Rattle.std.proofs.Common.{◌≡◌, ℕ, ◌+◌, ◌-◌, ◌/◌, ◌<◌, ◌≤◌, List, length, slice_index, sym, ap, subst, ◌∙◌, arith, inl, inr}
use Rattle.std.proofs.lemmas.Bool.{cases_eq}
use Rattle.compact_record.specs.Bytes.{SpellsAt, SameOutside}
use Rattle.compact_record.proofs.BytesLemmas.{spells_kept, u16_kept}
use Rattle.page_mirror.specs.Cells.{Cell, origin_in, end_in}
use Rattle.page_mirror.specs.Mirror.{Mirror, Mirrors, HasCell, IsHeap, changed, origin_of}
use Rattle.page_mirror.proofs.KeptLemmas.{changed-same, changed-other, starts_above, next_kept, owned_kept, spares}

-- the record with another body
abbrev pub with_body : Cell → List ℕ → Cell
with_body c body = record c { body = body }

-- of its records only that one changes, and it takes as many bytes
record SameRoom (cell : ℕ → Cell) (h : ℕ) (body : List ℕ) (k : ℕ) : Type 0 where
  pub start : (changed cell h (with_body (cell h) body) k).start ≡ (cell k).start
  pub number : (changed cell h (with_body (cell h) body) k).number ≡ (cell k).number
  pub origin : origin_in (changed cell h (with_body (cell h) body) k) ≡ origin_in (cell k)
  pub end : end_in (changed cell h (with_body (cell h) body) k) ≡ end_in (cell k)

same_room : (cell : ℕ → Cell) (h : ℕ) (body : List ℕ) → length body ≡ length (cell h).body → (k : ℕ) → SameRoom cell h body k
same_room cell h body size k = elim (cases_eq k h) [
  | inl is ↦
      let c = with_body (cell h) body in
      let here : changed cell h c k ≡ c = ap (changed cell h c) is ∙ changed-same cell h c in
      let old : cell k ≡ cell h = ap cell is in
      record {
        start = ap (λ (x : Cell). x.start) here ∙ sym (ap (λ (x : Cell). x.start) old);
        number = ap (λ (x : Cell). x.number) here ∙ sym (ap (λ (x : Cell). x.number) old);
        origin = ap origin_in here ∙ sym (ap origin_in old);
        end = ap end_in here ∙ ap (λ (n : ℕ). origin_in (cell h) + n) size ∙ sym (ap end_in old);
      }
  | inr other ↦
      let here = changed-other cell h (with_body (cell h) body) k other in
      record {
        start = ap (λ (x : Cell). x.start) here;
        number = ap (λ (x : Cell). x.number) here;
        origin = ap origin_in here;
        end = ap end_in here;
      }
]

heap_with : {count top : ℕ} {cell : ℕ → Cell} (h : ℕ) (body : List ℕ) → IsHeap count cell top → 2 ≤ h → length body ≡ length (cell h).body
    → IsHeap count (changed cell h (with_body (cell h) body)) top
heap_with {cell = cell} h body heap behind size =
    let same = same_room cell h body size in
    record {
      some = heap.some;
      first = changed-other cell h (with_body (cell h) body) 0 (λ e. omega arith) ∙ heap.first;
      second = changed-other cell h (with_body (cell h) body) 1 (λ e. omega arith) ∙ heap.second;
      numbered = λ k w. ap (λ (x : ℕ). x / 8) (same k).number ∙ heap.numbered k w;
      apart = λ j k b w. let a = heap.apart j k b w in omega (arith, (same j).end, (same k).start);
      high = λ k w. let a = heap.high k w in omega (arith, (same k).end);
    }

pub body_written : {old new : List ℕ} {m : Mirror} {from to : ℕ} (h : ℕ) (body : List ℕ) → Mirrors old m → h < m.count → 2 ≤ h → length body ≡ length (m.cell h).body
    → SameOutside old new from to → origin_in (m.cell h) ≤ from → to ≤ end_in (m.cell h) → SpellsAt new (origin_in (m.cell h)) body
    → Mirrors new (record m { cell = changed m.cell h (with_body (m.cell h) body) })
body_written {old} {new} {m} h body r within behind size same above below spells =
    let c = with_body (m.cell h) body in
    let cells : ℕ → Cell = changed m.cell h c in
    let rest = spares h r within same (omega arith) below in
    let room = same_room m.cell h body size in
    let low = starts_above r.heap h within in
    let s = (r.cells h within).stands in
    let fits = s.fits in
    let mine : HasCell new c (origin_of m (m.next h)) (m.owned h) = record {
      stands = record {
        fits = omega (arith, rest.len, r.len, size);
        lengths = spells_kept same (m.cell h).start (m.cell h).lengths (inl (omega arith)) s.lengths;
        info = ap (λ (x : ℕ). x / 16) (same.below (origin_in (m.cell h) - 5) (omega arith)) ∙ s.info;
        number = u16_kept same (origin_in (m.cell h) - 4) (inl (omega arith)) ∙ s.number;
        body = spells;
      };
      leads = next_kept same (origin_in (m.cell h)) (inl above) (omega arith) ∙ (r.cells h within).leads;
      owns = owned_kept same (origin_in (m.cell h)) (inl (omega arith)) (omega arith) ∙ (r.cells h within).owns;
    } in
    let here : HasCell new (cells h) (origin_in (cells (m.next h))) (m.owned h) =
    subst (λ (x : ℕ). HasCell new (cells h) x (m.owned h)) (sym (room (m.next h)).origin)
    (subst (λ (x : Cell). HasCell new x (origin_of m (m.next h)) (m.owned h)) (sym (changed-same m.cell h c)) mine) in
    record {
      len = rest.len;
      heap = heap_with h body r.heap behind size;
      head = rest.head;
      fixed = rest.fixed;
      leads = r.leads;
      cells = λ k w. elim (cases_eq k h) [
        | inl is ↦ subst (λ (i : ℕ). HasCell new (cells i) (origin_in (cells (m.next i))) (m.owned i)) (sym is) here
        | inr other ↦
            subst (λ (x : ℕ). HasCell new (cells k) x (m.owned k)) (sym (room (m.next k)).origin)
            (subst (λ (x : Cell). HasCell new x (origin_of m (m.next k)) (m.owned k)) (sym (changed-other m.cell h c k other)) (rest.others k w other))
      ];
      names = r.names;
      slots = λ k w. rest.slots k w ∙ sym (room (slice_index m.slots k)).origin;
      room = r.room;
      unused = rest.unused;
    }
