-- A record's link and count, and the numbers of the head, after a write.
use Rattle.std.proofs.Common.{◌≡◌, ℕ, ◌+◌, ◌-◌, ◌*◌, ◌/◌, ◌<◌, ◌≤◌, List, length, slice_index, sym, ap, subst, ◌∙◌, arith, ◌⊎◌, inl, inr}
use Rattle.std.proofs.lemmas.Bool.{cases_eq}
use Rattle.compact_record.specs.Bytes.{SameOutside}
use Rattle.compact_record.proofs.BytesLemmas.{u16_kept}
use Rattle.page_mirror.specs.Words.{next_origin, owned_count}
use Rattle.page_mirror.specs.Mirror.{Mirror, Mirrors, HasHead, HasCell, changed, origin_of}
use Rattle.page_mirror.specs.Steps.{HasOrigin, led, owning}
use Rattle.page_mirror.proofs.KeptLemmas.{changed-same, changed-other, starts_above, top_above, stands_kept_link, stands_kept_owned, next_kept, owned_kept, cell_kept, spares}

-- an origin is within the page
pub record IsInPage (bytes : List ℕ) (at : ℕ) : Type 0 where
  pub low : 99 ≤ at
  pub high : at ≤ length bytes

pub origin_in_page : {bytes : List ℕ} {m : Mirror} {h at : ℕ} → HasOrigin bytes m h at → IsInPage bytes at
origin_in_page {h = h} r =
    let low = starts_above r.is.heap h r.within in
    let high = r.is.heap.high h r.within in
    let room = r.is.room in
    record { low = omega (arith, r.placed); high = omega (arith, r.placed, r.is.len) }

-- the same record in a page whose mirror has the same records
pub still : {old new : List ℕ} {m n : Mirror} {h at : ℕ} → HasOrigin old m h at → Mirrors new n → n.count ≡ m.count → n.cell ≡ m.cell
    → HasOrigin new n h at
still {h = h} r is count cell = record {
  is = is;
  within = rw count r.within;
  placed = rw cell r.placed;
}

pub next_read : {bytes : List ℕ} {m : Mirror} (h : ℕ) {at next : ℕ} → HasOrigin bytes m h at → next ≡ next_origin bytes at
    → HasOrigin bytes m (m.next h) next
next_read {bytes} h r is = record {
  is = r.is;
  within = r.is.leads h r.within;
  placed = sym (is ∙ ap (next_origin bytes) (sym r.placed) ∙ (r.is.cells h r.within).leads);
}

pub owned_read : {bytes : List ℕ} {m : Mirror} (h : ℕ) {at n : ℕ} → HasOrigin bytes m h at → n ≡ owned_count bytes at → n ≡ m.owned h
owned_read {bytes} h r is = is ∙ ap (owned_count bytes) (sym r.placed) ∙ (r.is.cells h r.within).owns

-- record p leads to record q
pub link_written : {old new : List ℕ} {m : Mirror} (p q : ℕ) → Mirrors old m → p < m.count → q < m.count
    → SameOutside old new (origin_of m p - 2) (origin_of m p) → next_origin new (origin_of m p) ≡ origin_of m q → Mirrors new (led m p q)
link_written {old} {new} {m} p q r within target same value =
    let low = starts_above r.heap p within in
    let mine = r.cells p within in
    let rest = spares p r within same (omega arith) (omega arith) in
    record {
      len = rest.len;
      heap = r.heap;
      head = rest.head;
      fixed = rest.fixed;
      leads = λ h w. elim (cases_eq h p) [ inl is ↦ rw (is, changed-same m.next p q) target | inr other ↦ rw (changed-other m.next p q h other) (r.leads h w) ];
      cells = λ h w. elim (cases_eq h p) [
        | inl is ↦ subst (λ (k : ℕ). HasCell new (m.cell k) (origin_of m (changed m.next p q k)) (m.owned k)) (sym is) (record {
          stands = stands_kept_link (m.cell p) same mine.stands;
          leads = rw (changed-same m.next p q) value;
          owns = owned_kept same (origin_of m p) (inl (omega arith)) (omega arith) ∙ mine.owns;
        })
        | inr other ↦ rw (changed-other m.next p q h other) (rest.others h w other)
      ];
      names = r.names;
      slots = rest.slots;
      room = r.room;
      unused = rest.unused;
    }

-- record p owns n records
pub count_written : {old new : List ℕ} {m : Mirror} (p n : ℕ) → Mirrors old m → p < m.count
    → SameOutside old new (origin_of m p - 5) (origin_of m p - 4)
    → slice_index new (origin_of m p - 5) / 16 ≡ slice_index old (origin_of m p - 5) / 16
    → owned_count new (origin_of m p) ≡ n → Mirrors new (owning m p n)
count_written {old} {new} {m} p n r within same info value =
    let low = starts_above r.heap p within in
    let mine = r.cells p within in
    let rest = spares p r within same (omega arith) (omega arith) in
    record {
      len = rest.len;
      heap = r.heap;
      head = rest.head;
      fixed = rest.fixed;
      leads = r.leads;
      cells = λ h w. elim (cases_eq h p) [
        | inl is ↦ subst (λ (i : ℕ). HasCell new (m.cell i) (origin_of m (m.next i)) (changed m.owned p n i)) (sym is) (record {
          stands = stands_kept_owned (m.cell p) same info mine.stands;
          leads = next_kept same (origin_of m p) (inr (omega arith)) (omega arith) ∙ mine.leads;
          owns = rw (changed-same m.owned p n) value;
        })
        | inr other ↦ rw (changed-other m.owned p n h other) (rest.others h w other)
      ];
      names = r.names;
      slots = rest.slots;
      room = r.room;
      unused = rest.unused;
    }

-- another number of the head
pub number_written : {old new : List ℕ} {m : Mirror} (at free garbage rows : ℕ) → Mirrors old m → SameOutside old new at (at + 2)
    → ((44 ≤ at) × (at ≤ 46)) ⊎ (at ≡ 54) → HasHead new (length m.slots) m.top m.count free garbage rows
    → Mirrors new (record m { free = free; garbage = garbage; rows = rows })
number_written {m = m} at free garbage rows r same which head =
    let room = r.room in
    let begins = top_above r.heap in
    let behind : at + 2 ≤ 56 = elim which [ inl w ↦ omega (arith, w.1) | inr w ↦ omega arith ] in
    record {
      len = same.len ∙ r.len;
      heap = r.heap;
      head = head;
      fixed = record {
        front = λ k h. same.below k (elim which [ inl w ↦ omega (arith, w.0) | inr w ↦ omega arith ]) ∙ r.fixed.front k h;
        middle = λ k g h. elim which [
          | inl w ↦ same.above k (omega (arith, w.1)) ∙ r.fixed.middle k g h
          | inr w ↦ same.below k (omega arith) ∙ r.fixed.middle k g h
        ];
        back = λ k g h. same.above k (omega arith) ∙ r.fixed.back k g h;
        end = λ k h. same.above k (omega arith) ∙ r.fixed.end k h;
      };
      leads = r.leads;
      cells = λ h w. let low = starts_above r.heap h w in cell_kept (m.cell h) same (inr (omega arith)) (r.cells h w);
      names = r.names;
      slots = λ s w. u16_kept same (16374 - 2 * s) (inr (omega arith)) ∙ r.slots s w;
      room = room;
      unused = λ k g w. same.above k (omega arith) ∙ r.unused k g w;
    }
