-- A page of rows in which one has another tail, as long as before.
use Rattle.std.proofs.Common.{◌≡◌, ℕ, List, [], ◌∷◌, ◌++◌, length, refl, sym, ap, subst, ◌∙◌, arith, inl, inr}
use Rattle.std.proofs.lemmas.Bool.{cases_eq}
use Rattle.std.specs.List.{concat}
use Rattle.list_facts.proofs.Each.{each_all, each_weaker}
use Rattle.key_tuple.specs.Order.{FieldList}
use Rattle.compact_record.specs.declared.kind.RecordKind.{RecordKind}
use Rattle.compact_record.specs.declared.kind.RecordKind.TheVariants as kinds
use Rattle.compact_record.specs.Kind.{measured}
use Rattle.compact_record.specs.Record.{PlacedRecord, IsRecord, length_bytes, lengths_bytes, record_size_of}
use Rattle.compact_record.proofs.WritingLemmas.{measured_lengths}
use Rattle.page_mirror.specs.Cells.{origin_in}
use Rattle.page_mirror.specs.Mirror.{Mirror, Mirrors, changed, origin_of}
use Rattle.page_mirror.proofs.KeptLemmas.{changed-same, changed-other}
use Rattle.page_heap.specs.Heap.{cell_of}
use Rattle.page_rows.specs.Spelling.{free_origin, size_of_record, StandsAsRow, PageParts, SpellsRows}
use Rattle.page_rows.specs.Setting.{with_tail, set_parts}
use Rattle.page_rows.proofs.SumLemmas.{same_sums}
use Rattle.page_rows.proofs.BodyLemmas.{with_body}

-- what tells how long a tail is stays
lengths_same : (kind : RecordKind) (key : FieldList) (a b : List ℕ) → length a ≡ length b → lengths_bytes (measured kind key a) ≡ lengths_bytes (measured kind key b)
lengths_same kinds.Row key a b e =
    measured_lengths kinds.Row key a ∙ ap (λ (n : ℕ). ([] ++ length_bytes n) ++ lengths_bytes key) e ∙ sym (measured_lengths kinds.Row key b)
lengths_same kinds.Pointer key a b e = refl
lengths_same kinds.LeftmostPointer key a b e = refl

pub size_same : (kind : RecordKind) (key : FieldList) (a b : List ℕ) → length a ≡ length b → record_size_of kind key a ≡ record_size_of kind key b
size_same kinds.Row key a b e = rw e refl
size_same kinds.Pointer key a b e = refl
size_same kinds.LeftmostPointer key a b e = refl

-- the record with another tail is the one with another body
pub tail_is_body : (r : PlacedRecord) (tail : List ℕ) → length tail ≡ length r.tail → with_body (cell_of r) (concat r.key ++ tail) ≡ cell_of (with_tail r tail)
tail_is_body r tail e =
    let same = sym (lengths_same r.kind r.key tail r.tail e) in
    λ i. record { start = r.start; lengths = same i; info = (cell_of r).info; number = (cell_of r).number; body = concat r.key ++ tail }

pub record_set : (r : PlacedRecord) (tail : List ℕ) → IsRecord r → length tail ≡ length r.tail → IsRecord (with_tail r tail)
record_set r tail s e = record { number = s.number; key = s.key; tail = rw e s.tail; child = λ q. e ∙ s.child q }

-- each record is as long as before, and where it was
pub size_set : (p : PageParts) (h : ℕ) (tail : List ℕ) → length tail ≡ length (p.of h).tail → (k : ℕ) → size_of_record ((set_parts p h tail).of k) ≡ size_of_record (p.of k)
size_set p h tail e k = elim (cases_eq k h) [
  | inl is ↦
      ap (λ (i : ℕ). size_of_record (changed p.of h (with_tail (p.of h) tail) i)) is ∙ ap size_of_record (changed-same p.of h (with_tail (p.of h) tail))
      ∙ size_same (p.of h).kind (p.of h).key tail (p.of h).tail e ∙ ap (λ (i : ℕ). size_of_record (p.of i)) (sym is)
  | inr other ↦ ap size_of_record (changed-other p.of h (with_tail (p.of h) tail) k other)
]

pub origin_set : (p : PageParts) (h : ℕ) (tail : List ℕ) → p.mirror.cell h ≡ cell_of (p.of h) → length tail ≡ length (p.of h).tail → (k : ℕ)
    → origin_of (set_parts p h tail).mirror k ≡ origin_of p.mirror k
origin_set p h tail was e k =
    let r = with_tail (p.of h) tail in
    elim (cases_eq k h) [
      | inl is ↦
          ap (λ (i : ℕ). origin_in (changed p.mirror.cell h (cell_of r) i)) is ∙ ap origin_in (changed-same p.mirror.cell h (cell_of r)) ∙ ap origin_in (sym (tail_is_body (p.of h) tail e))
          ∙ ap origin_in (sym was) ∙ ap (origin_of p.mirror) (sym is)
      | inr other ↦ ap origin_in (changed-other p.mirror.cell h (cell_of r) k other)
    ]

stands_set : (fields : ℕ) (p : PageParts) (h : ℕ) (tail : List ℕ) → IsRecord (with_tail (p.of h) tail) → (k : ℕ) → StandsAsRow fields p.mirror p.of k
    → StandsAsRow fields (set_parts p h tail).mirror (set_parts p h tail).of k
stands_set fields p h tail sound k s =
    let r = with_tail (p.of h) tail in
    elim (cases_eq k h) [
      | inl is ↦
          let cell : (set_parts p h tail).mirror.cell k ≡ cell_of r = ap (λ (i : ℕ). changed p.mirror.cell h (cell_of r) i) is ∙ changed-same p.mirror.cell h (cell_of r) in
          let of : (set_parts p h tail).of k ≡ r = ap (λ (i : ℕ). changed p.of h r i) is ∙ changed-same p.of h r in
          record {
            cell = cell ∙ sym (ap cell_of of);
            sound = subst IsRecord (sym of) sound;
            count = ap (λ (x : PlacedRecord). length x.key) of ∙ ap (λ (i : ℕ). length (p.of i).key) (sym is) ∙ s.count;
          }
      | inr other ↦
          let of = changed-other p.of h r k other in
          record {
            cell = changed-other p.mirror.cell h (cell_of r) k other ∙ s.cell ∙ sym (ap cell_of of);
            sound = subst IsRecord (sym of) s.sound;
            count = ap (λ (x : PlacedRecord). length x.key) of ∙ s.count;
          }
    ]

free_origin_same : (m n : Mirror) → ((k : ℕ) → origin_of n k ≡ origin_of m k) → (hs : List ℕ) → free_origin m hs ≡ free_origin n hs
free_origin_same m n same [] = refl
free_origin_same m n same (h ∷ hs) = sym (same h)

pub set_spells : {b0 b1 : List ℕ} {fields : ℕ} {p : PageParts} (h : ℕ) (tail : List ℕ) → SpellsRows b0 fields p [] → StandsAsRow fields p.mirror p.of h → length tail ≡ length (p.of h).tail
    → Mirrors b1 (set_parts p h tail).mirror → SpellsRows b1 fields (set_parts p h tail) []
set_spells {b0} {b1} {fields} {p} h tail s stands e is =
    let m = p.mirror in
    let q = set_parts p h tail in
    let size : ℕ → ℕ = λ k. size_of_record (p.of k) in
    let size' : ℕ → ℕ = λ k. size_of_record (q.of k) in
    let same = each_all (λ k. size' k ≡ size k) (size_set p h tail e) in
    record {
      page = record {
        is = is;
        groups = record { slots = s.page.groups.slots; owned = s.page.groups.owned };
        order = record { linked = s.page.order.linked; once = s.page.order.once; inside = s.page.order.inside; rows = s.page.order.rows };
      };
      sizes = s.sizes;
      list = s.list;
      whole = s.whole;
      last = s.last;
      rows = each_weaker (StandsAsRow fields m p.of) (StandsAsRow fields q.mirror q.of) (stands_set fields p h tail (record_set (p.of h) tail stands.sound e)) (p.inner ++ p.free) s.rows;
      free_from = s.free_from ∙ free_origin_same m q.mirror (origin_set p h tail stands.cell e) p.free;
      free_on = s.free_on;
      used = omega (arith, s.used, same_sums size' size p.inner (same p.inner));
      freed = rw (same_sums size' size p.free (same p.free)) s.freed;
    }
