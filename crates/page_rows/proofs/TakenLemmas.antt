-- A page with a record that is neither in its list nor on its free list.
use Rattle.std.proofs.Common.{◌≡◌, ℕ, ◌+◌, ◌<◌, ◌≤◌, List, [], ◌∷◌, ◌++◌, length, nat_eq, count_by, sum_by, refl, sym, ap, ◌∙◌, arith}
use Rattle.std.proofs.lemmas.List.Sums.{sum_by-cons}
use Rattle.std.specs.List.{AllByRecursion}
use Rattle.list_facts.proofs.Each.{each_left, each_right, each_append, each_both, each_weaker}
use Rattle.compact_record.specs.Record.{PlacedRecord, IsRecord}
use Rattle.page_mirror.specs.Cells.{origin_in}
use Rattle.page_mirror.specs.Mirror.{Mirror, Mirrors, changed}
use Rattle.page_mirror.proofs.KeptLemmas.{changed-same, changed-other}
use Rattle.page_heap.specs.Heap.{cell_of}
use Rattle.page_directory.specs.Groups.{records}
use Rattle.page_directory.proofs.GroupLemmas.{groups_kept}
use Rattle.page_list.proofs.LinkLemmas.{linked_kept}
use Rattle.page_rows.specs.Spelling.{AreFree, free_origin, size_of_record, StandsAsRow, PageParts, SpellsRows}
use Rattle.page_rows.specs.Inserting.{taken_mirror, taken_parts}
use Rattle.page_rows.proofs.SumLemmas.{same_sums}

-- the free list goes on as it did
pub free_kept : (next next' : ℕ → ℕ) (hs : List ℕ) → AllByRecursion (λ h. next' h ≡ next h) hs → AreFree next hs → AreFree next' hs
free_kept next next' [] same a = tt
free_kept next next' (h ∷ hs) same a = (same.0 ∙ a.0, free_kept next next' hs same.1 a.1)

-- where it begins stays
pub free_origin_kept : (m n : Mirror) (hs : List ℕ) → AllByRecursion (λ h. n.cell h ≡ m.cell h) hs → free_origin n hs ≡ free_origin m hs
free_origin_kept m n [] same = refl
free_origin_kept m n (h ∷ hs) same = ap origin_in same.0

-- records that stay
pub stands_still : (fields : ℕ) (p : PageParts) (h : ℕ) (r : PlacedRecord) (count top free garbage : ℕ) (ks : List ℕ) → AllByRecursion (λ k. k ≡ h → ⊥) ks
    → AllByRecursion (StandsAsRow fields p.mirror p.of) ks
    → AllByRecursion (StandsAsRow fields (taken_mirror p.mirror h (cell_of r) count top free garbage) (changed p.of h r)) ks
stands_still fields p h r count top free garbage =
    each_both (λ k. k ≡ h → ⊥) (StandsAsRow fields p.mirror p.of) (StandsAsRow fields (taken_mirror p.mirror h (cell_of r) count top free garbage) (changed p.of h r))
    (λ k other s.
    let same = changed-other p.of h r k other in
    record {
      cell = changed-other p.mirror.cell h (cell_of r) k other ∙ s.cell ∙ ap cell_of (sym same);
      sound = rw same s.sound;
      count = rw same s.count;
    })

-- what of the page with the record has to be seen from where it was taken
pub record TakenFrom (fields : ℕ) (p : PageParts) (h : ℕ) (r : PlacedRecord) (count top first garbage : ℕ) (free : List ℕ) : Type 0 where
  pub more : p.mirror.count ≤ count
  pub apart : AllByRecursion (λ k. k ≡ h → ⊥) (records p.groups ++ free)
  pub once : (k : ℕ) → count_by (λ x. nat_eq x k) (records p.groups ++ free) ≤ 1
  pub inside : AllByRecursion (λ k. k < p.mirror.count) (records p.groups ++ free)
  pub whole : (k : ℕ) → k < count → 1 ≤ count_by (λ x. nat_eq x k) (h ∷ (records p.groups ++ free))
  pub sound : IsRecord r
  pub fields_are : length r.key ≡ fields
  pub free_rows : AllByRecursion (StandsAsRow fields p.mirror p.of) free
  pub free_from : first ≡ free_origin p.mirror free
  pub free_on : AreFree p.mirror.next free
  pub used : top ≡ 120 + (size_of_record r + sum_by (λ k. size_of_record (p.of k)) p.inner) + garbage
  pub freed : sum_by (λ k. size_of_record (p.of k)) free ≤ garbage

pub taken_spells : {b0 b1 : List ℕ} {fields : ℕ} {p : PageParts} (h : ℕ) (r : PlacedRecord) (count top first garbage : ℕ) (free : List ℕ)
    → SpellsRows b0 fields p [] → TakenFrom fields p h r count top first garbage free → Mirrors b1 (taken_mirror p.mirror h (cell_of r) count top first garbage)
    → SpellsRows b1 fields (taken_parts p h r count top first garbage free) (h ∷ [])
taken_spells {b0} {b1} {fields} {p} h r count top first garbage free s t is =
    let m = p.mirror in
    let m' = taken_mirror m h (cell_of r) count top first garbage in
    let of' : ℕ → PlacedRecord = changed p.of h r in
    let list = records p.groups in
    let more = t.more in
    let apart_list = each_left (λ k. k ≡ h → ⊥) list free t.apart in
    let apart_free = each_right (λ k. k ≡ h → ⊥) list free t.apart in
    let ends : AllByRecursion (λ k. k ≡ h → ⊥) (0 ∷ (p.inner ++ 1 ∷ [])) = rw s.list at apart_list in
    let apart_inner = each_left (λ k. k ≡ h → ⊥) p.inner (1 ∷ []) ends.1 in
    let apart_one = (each_right (λ k. k ≡ h → ⊥) p.inner (1 ∷ []) ends.1).0 in
    let same_next = each_weaker (λ k. k ≡ h → ⊥) (λ k. m'.next k ≡ m.next k) (λ k o. changed-other m.next h h k o) in
    let same_owned = each_weaker (λ k. k ≡ h → ⊥) (λ k. m'.owned k ≡ m.owned k) (λ k o. changed-other m.owned h 0 k o) in
    let same_cell = each_weaker (λ k. k ≡ h → ⊥) (λ k. m'.cell k ≡ m.cell k) (λ k o. changed-other m.cell h (cell_of r) k o) in
    let same_size = each_weaker (λ k. k ≡ h → ⊥) (λ k. size_of_record (of' k) ≡ size_of_record (p.of k)) (λ k o. ap size_of_record (changed-other p.of h r k o)) in
    let mine = changed-same p.of h r in
    let sizes : ℕ → ℕ = λ k. size_of_record (of' k) in
    let old_sizes : ℕ → ℕ = λ k. size_of_record (p.of k) in
    record {
      page = record {
        is = is;
        groups = record { slots = s.page.groups.slots; owned = groups_kept m.owned m'.owned p.groups (same_owned list apart_list) s.page.groups.owned };
        order = record {
          linked = linked_kept m.next m'.next list (same_next list apart_list) s.page.order.linked;
          once = t.once;
          inside = each_weaker (λ k. k < m.count) (λ k. k < count) (λ k w. omega arith) (list ++ free) t.inside;
          rows = s.page.order.rows;
        };
      };
      sizes = s.sizes;
      list = s.list;
      whole = t.whole;
      last = changed-other m.next h h 1 apart_one ∙ s.last;
      rows = (
        record {
          cell = changed-same m.cell h (cell_of r) ∙ ap cell_of (sym mine);
          sound = rw mine t.sound;
          count = rw mine t.fields_are;
        },
        each_append (StandsAsRow fields m' of') p.inner free
            (stands_still fields p h r count top first garbage p.inner apart_inner (each_left (StandsAsRow fields m p.of) p.inner p.free s.rows))
            (stands_still fields p h r count top first garbage free apart_free t.free_rows),
      );
      free_from = t.free_from ∙ sym (free_origin_kept m m' free (same_cell free apart_free));
      free_on = free_kept m.next m'.next free (same_next free apart_free) t.free_on;
      used = omega (arith, t.used, sum_by-cons sizes h p.inner, ap size_of_record mine, same_sums sizes old_sizes p.inner (same_size p.inner apart_inner));
      freed = rw (same_sums sizes old_sizes free (same_size free apart_free)) t.freed;
    }
