-- What a write leaves as it was.
use Rattle.std.proofs.Common.{◌≡◌, ℕ, ◌+◌, ◌-◌, ◌*◌, ◌/◌, ◌%◌, ◌<◌, ◌≤◌, List, length, slice_index, ap, ◌∙◌, arith, ◌⊎◌, inl, inr}
use Rattle.std.proofs.lemmas.Bool.{cases_lt, cases_eq}
use Rattle.std.proofs.lemmas.Bool.Decides.{nat_tests}
use Rattle.compact_record.specs.Bytes.{SameOutside}
use Rattle.page_mirror.specs.Cells.{Cell, StandsHere, origin_in, end_in}
use Rattle.compact_record.proofs.BytesLemmas.{spells_kept, u16_kept}
use Rattle.page_mirror.specs.Words.{next_origin, owned_count, slot_word}
use Rattle.page_mirror.specs.Mirror.{Mirror, Mirrors, HasHead, HasFixed, HasCell, IsHeap, changed, origin_of}

pub changed-same : {X : Type 0} (f : ℕ → X) (i : ℕ) (v : X) → changed f i v i ≡ v
changed-same f i v = grind (arith, nat_tests)

pub changed-other : {X : Type 0} (f : ℕ → X) (i : ℕ) (v : X) (k : ℕ) → (k ≡ i → ⊥) → changed f i v k ≡ f k
changed-other f i v k h = grind (arith, nat_tests)

-- records stand behind the head
pub starts_above : {count top : ℕ} {cell : ℕ → Cell} → IsHeap count cell top → (h : ℕ) → h < count → 94 ≤ (cell h).start
starts_above {cell = cell} heap h w =
    let some = heap.some in
    let end : end_in (cell 0) ≡ 107 = ap end_in heap.first in
    elim (cases_eq h 0) [
      | inl is ↦ rw (is, heap.first) (omega arith)
      | inr other ↦ let after = heap.apart 0 h (omega (arith, other)) w in omega arith
    ]

pub top_above : {count top : ℕ} {cell : ℕ → Cell} → IsHeap count cell top → 120 ≤ top
top_above {cell = cell} heap =
    let some = heap.some in
    let end : end_in (cell 1) ≡ 120 = ap end_in heap.second in
    let high = heap.high 1 (omega arith) in
    omega arith

-- two records don't overlap
pub cells_apart : {count top : ℕ} {cell : ℕ → Cell} → IsHeap count cell top → (h k : ℕ) → h < count → k < count → (h ≡ k → ⊥)
    → (end_in (cell h) ≤ (cell k).start) ⊎ (end_in (cell k) ≤ (cell h).start)
cells_apart heap h k low high differ = elim (cases_lt h k) [
  | inl below ↦ inl (heap.apart h k below high)
  | inr above ↦ inr (heap.apart k h (omega (arith, differ)) low)
]

-- a record that the write doesn't touch, or of which it touches the link or the count alone
pub stands_kept : {old new : List ℕ} {from to : ℕ} (c : Cell) → SameOutside old new from to
    → (end_in c ≤ from) ⊎ (to ≤ c.start) → StandsHere old c → StandsHere new c
stands_kept c same apart s = record {
  fits = rw same.len s.fits;
  lengths = spells_kept same c.start c.lengths (elim apart [ inl low ↦ inl (omega arith) | inr high ↦ inr high ]) s.lengths;
  info = ap (λ (x : ℕ). x / 16) (elim apart [ inl low ↦ same.below (origin_in c - 5) (omega arith) | inr high ↦ same.above (origin_in c - 5) (omega arith) ]) ∙ s.info;
  number = u16_kept same (origin_in c - 4) (elim apart [ inl low ↦ inl (omega arith) | inr high ↦ inr (omega arith) ]) ∙ s.number;
  body = spells_kept same (origin_in c) c.body (elim apart [ inl low ↦ inl low | inr high ↦ inr (omega arith) ]) s.body;
}

pub stands_kept_link : {old new : List ℕ} (c : Cell) → SameOutside old new (origin_in c - 2) (origin_in c) → StandsHere old c → StandsHere new c
stands_kept_link c same s = record {
  fits = rw same.len s.fits;
  lengths = spells_kept same c.start c.lengths (inl (omega arith)) s.lengths;
  info = ap (λ (x : ℕ). x / 16) (same.below (origin_in c - 5) (omega arith)) ∙ s.info;
  number = u16_kept same (origin_in c - 4) (inl (omega arith)) ∙ s.number;
  body = spells_kept same (origin_in c) c.body (inr (omega arith)) s.body;
}

pub stands_kept_owned : {old new : List ℕ} (c : Cell) → SameOutside old new (origin_in c - 5) (origin_in c - 4)
    → slice_index new (origin_in c - 5) / 16 ≡ slice_index old (origin_in c - 5) / 16 → StandsHere old c → StandsHere new c
stands_kept_owned c same info s = record {
  fits = rw same.len s.fits;
  lengths = spells_kept same c.start c.lengths (inl (omega arith)) s.lengths;
  info = info ∙ s.info;
  number = u16_kept same (origin_in c - 4) (inr (omega arith)) ∙ s.number;
  body = spells_kept same (origin_in c) c.body (inr (omega arith)) s.body;
}

pub next_kept : {old new : List ℕ} {from to : ℕ} → SameOutside old new from to → (at : ℕ) → (at ≤ from) ⊎ (to + 2 ≤ at) → 2 ≤ at
    → next_origin new at ≡ next_origin old at
next_kept same at apart low =
    ap (λ (x : ℕ). (at + x) % 65536) (u16_kept same (at - 2) (elim apart [ inl l ↦ inl (omega arith) | inr h ↦ inr (omega arith) ]))

pub owned_kept : {old new : List ℕ} {from to : ℕ} → SameOutside old new from to → (at : ℕ) → (at ≤ from + 4) ⊎ (to + 5 ≤ at) → 5 ≤ at
    → owned_count new at ≡ owned_count old at
owned_kept same at apart low =
    ap (λ (x : ℕ). x % 16) (elim apart [ inl l ↦ same.below (at - 5) (omega arith) | inr h ↦ same.above (at - 5) (omega arith) ])

-- a write outside a record keeps all of it
pub cell_kept : {old new : List ℕ} {from to next owned : ℕ} (c : Cell) → SameOutside old new from to
    → (end_in c ≤ from) ⊎ (to ≤ c.start) → HasCell old c next owned → HasCell new c next owned
cell_kept c same apart r = record {
  stands = stands_kept c same apart r.stands;
  leads = next_kept same (origin_in c) (elim apart [ inl low ↦ inl (omega arith) | inr high ↦ inr (omega arith) ]) (omega arith) ∙ r.leads;
  owns = owned_kept same (origin_in c) (elim apart [ inl low ↦ inl (omega arith) | inr high ↦ inr (omega arith) ]) (omega arith) ∙ r.owns;
}

-- a write behind the head keeps its numbers and the bytes around them
pub head_kept : {old new : List ℕ} {from to slots top count free garbage rows : ℕ} → SameOutside old new from to → 94 ≤ from
    → HasHead old slots top count free garbage rows → HasHead new slots top count free garbage rows
head_kept same low r = record {
  dir_slots = u16_kept same 38 (inl (omega arith)) ∙ r.dir_slots;
  heap_top = u16_kept same 40 (inl (omega arith)) ∙ r.heap_top;
  n_heap = u16_kept same 42 (inl (omega arith)) ∙ r.n_heap;
  first_free = u16_kept same 44 (inl (omega arith)) ∙ r.first_free;
  garbage = u16_kept same 46 (inl (omega arith)) ∙ r.garbage;
  n_recs = u16_kept same 54 (inl (omega arith)) ∙ r.n_recs;
}

pub fixed_kept : {old new : List ℕ} {from to : ℕ} {fixed : ℕ → ℕ} → SameOutside old new from to → 94 ≤ from → to ≤ 16376
    → HasFixed old fixed → HasFixed new fixed
fixed_kept same low high r = record {
  front = λ k h. same.below k (omega arith) ∙ r.front k h;
  middle = λ k g h. same.below k (omega arith) ∙ r.middle k g h;
  back = λ k g h. same.below k (omega arith) ∙ r.back k g h;
  end = λ k h. same.above k (omega arith) ∙ r.end k h;
}

-- what of a mirror has nothing to do with record p
pub record Spares (new : List ℕ) (m : Mirror) (p : ℕ) : Type 0 where
  pub len : length new ≡ 16384
  pub head : HasHead new (length m.slots) m.top m.count m.free m.garbage m.rows
  pub fixed : HasFixed new m.fixed
  pub others : (h : ℕ) → h < m.count → (h ≡ p → ⊥) → HasCell new (m.cell h) (origin_of m (m.next h)) (m.owned h)
  pub slots : (s : ℕ) → s < length m.slots → slot_word new s ≡ origin_of m (slice_index m.slots s)
  pub unused : (k : ℕ) → m.top ≤ k → k + 2 * length m.slots < 16376 → slice_index new k ≡ 0

-- a write within record p keeps the rest
pub spares : {old new : List ℕ} {from to : ℕ} {m : Mirror} (p : ℕ) → Mirrors old m → p < m.count → SameOutside old new from to
    → (m.cell p).start ≤ from → to ≤ end_in (m.cell p) → Spares new m p
spares {m = m} p r within same above below =
    let low = starts_above r.heap p within in
    let high = r.heap.high p within in
    let room = r.room in
    record {
      len = same.len ∙ r.len;
      head = head_kept same (omega arith) r.head;
      fixed = fixed_kept same (omega arith) (omega arith) r.fixed;
      others = λ h w other. cell_kept (m.cell h) same
          (elim (cells_apart r.heap h p w within other) [ inl l ↦ inl (omega arith) | inr g ↦ inr (omega arith) ]) (r.cells h w);
      slots = λ s w. u16_kept same (16374 - 2 * s) (inr (omega arith)) ∙ r.slots s w;
      unused = λ k g w. same.above k (omega arith) ∙ r.unused k g w;
    }
