-- A record that is taken from the free list's head, or from behind all records.
use Rattle.std.proofs.Common.{◌≡◌, ℕ, ◌+◌, ◌-◌, ◌<◌, ◌≤◌, true, false, ◌&&◌, cond, List, [], ◌∷◌, ◌++◌, nat_eq, nat_le, count_by, sum_by, refl, sym, ap, subst, ◌∙◌, arith, inl, inr}
use Rattle.std.proofs.lemmas.List.Sums.{sum_by-cons}
use Rattle.std.proofs.lemmas.Bool.{cases_eq}
use Rattle.std.proofs.lemmas.Bool.Decides.{nat_tests}
use Rattle.std.specs.List.{AllByRecursion}
use Rattle.list_facts.proofs.Each.{each_left, each_right, each_append, each_weaker}
use Rattle.key_tuple.specs.Order.{FieldList}
use Rattle.compact_record.specs.declared.kind.RecordKind.{RecordKind}
use Rattle.compact_record.specs.Bytes.{u16_at}
use Rattle.compact_record.specs.Record.{IsRecord}
use Rattle.compact_record.proofs.LawLemmas.{record_size}
use Rattle.page_mirror.specs.Cells.{end_in}
use Rattle.page_mirror.specs.Mirror.{Mirror, Mirrors, origin_of}
use Rattle.page_mirror.specs.Steps.{HasOrigin}
use Rattle.page_heap.specs.Heap.{cell_of, record_from, enlarged, rewritten, FitsBehind, FitsInPlace}
use Rattle.page_heap.proofs.CellLemmas.{cell_end}
use Rattle.page_directory.specs.Groups.{records}
use Rattle.page_directory.proofs.OwnerLemmas.{origin_once}
use Rattle.page_rows.specs.Spelling.{AreFree, free_origin, size_of_record, StandsAsRow, PageParts}
use Rattle.page_rows.specs.Inserting.{head_start, gaps_in_bytes, taken_mirror, CanTake, CanTakeBehind, CanTakeFree, IsTaken}
use Rattle.page_rows.proofs.SumLemmas.{counts_itself, counts_more, size_of_some, sum_moved}
use Rattle.page_rows.proofs.TakenLemmas.{TakenFrom, taken_spells}
use Rattle.page_rows.proofs.UnledLemmas.{free_head}
use Rattle.page_rows.proofs.RoomLemmas.{few_records, free_some, free_there, no_gap, gaps_are, takes_behind}

-- the same record under another number is one
numbered_too : {kind : RecordKind} {key : FieldList} {tail : List ℕ} (start number : ℕ) → number < 8192 → IsRecord (record_from 0 0 kind key tail)
    → IsRecord (record_from start number kind key tail)
numbered_too start number few s = record { number = few; key = s.key; tail = s.tail; child = s.child }

-- behind all records
pub record_behind_fits : {bytes : List ℕ} {fields : ℕ} {p : PageParts} {kind : RecordKind} {key : FieldList} {tail : List ℕ} {size : ℕ}
    → CanTakeBehind bytes fields p kind key tail size → FitsBehind bytes p.mirror (record_from p.mirror.top p.mirror.count kind key tail)
record_behind_fits {p = p} {kind} {key} {tail} t =
    let m = p.mirror in
    let s = t.take.spells in
    let room = s.page.is.room in
    let few = few_records s.page.is.heap (omega arith) in
    let sound = numbered_too {kind = kind} {key = key} {tail = tail} m.top m.count (omega arith) t.take.sound in
    let fits = t.fits in
    record {
      is = s.page.is;
      sound = sound;
      start = refl;
      number = refl;
      fits = omega (arith, record_size (record_from m.top m.count kind key tail) sound, t.take.size_is);
    }

pub taken_behind : {b0 b1 : List ℕ} {fields : ℕ} {p : PageParts} {kind : RecordKind} {key : FieldList} {tail : List ℕ} {size at : ℕ}
    → CanTakeBehind b0 fields p kind key tail size
    → HasOrigin b1 (enlarged p.mirror (cell_of (record_from p.mirror.top p.mirror.count kind key tail))) p.mirror.count at → IsTaken b1 fields p kind key tail at
taken_behind {b0} {b1} {fields} {p} {kind} {key} {tail} {size} {at} t o =
    let m = p.mirror in
    let h = m.count in
    let s = t.take.spells in
    let list = records p.groups in
    let r = record_from m.top h kind key tail in
    let f = record_behind_fits t in
    let bytes_are = record_size r f.sound in
    let end = cell_end r in
    let inside = s.page.order.inside in
    let apart : AllByRecursion (λ k. k ≡ h → ⊥) (list ++ p.free) = each_weaker (λ k. k < h) (λ k. k ≡ h → ⊥) (λ k w e. omega arith) (list ++ p.free) inside in
    let top = end_in (cell_of r) in
    let from : TakenFrom fields p h r (h + 1) top m.free m.garbage p.free = record {
      more = omega arith;
      apart = apart;
      once = s.page.order.once;
      inside = inside;
      whole = λ k w. elim (cases_eq k h) [
        | inl is ↦ rw is (counts_itself h (list ++ p.free))
        | inr other ↦ let old = s.whole k (omega (arith, other)) in let more = counts_more k h (list ++ p.free) in omega arith
      ];
      sound = f.sound;
      fields_are = t.take.count;
      free_rows = each_right (StandsAsRow fields m p.of) p.inner p.free s.rows;
      free_from = s.free_from;
      free_on = s.free_on;
      used = omega (arith, s.used);
      freed = s.freed;
    } in
    record {
      h = h;
      start = m.top;
      count = h + 1;
      top = top;
      first = m.free;
      garbage = m.garbage;
      free = p.free;
      spells = taken_spells h r (h + 1) top m.free m.garbage p.free s from o.is;
      apart = apart;
      new_at = o;
      room = omega (arith, t.fits, t.take.size_is);
    }

-- at the free list's head
pub record_free_fits : {bytes : List ℕ} {fields : ℕ} {p : PageParts} {kind : RecordKind} {key : FieldList} {tail : List ℕ} {size : ℕ}
    → (t : CanTakeFree bytes fields p kind key tail size) → FitsInPlace bytes p.mirror fields t.h (p.of t.h) (record_from (p.of t.h).start t.h kind key tail)
record_free_fits {fields = fields} {p = p} {kind} {key} {tail} t =
    let m = p.mirror in
    let h = t.h in
    let s = t.take.spells in
    let head = free_head h t.rest s t.free in
    let there = free_there h t.rest s t.free in
    let room = s.page.is.room in
    let within = head.within in
    let few = few_records s.page.is.heap (omega arith) in
    let sound = numbered_too {kind = kind} {key = key} {tail = tail} (p.of h).start h (omega arith) t.take.sound in
    let long = t.long in
    record {
      is = s.page.is;
      within = head.within;
      behind = head.behind;
      was = there.stands.cell;
      was_sound = there.stands.sound;
      count = there.stands.count;
      sound = sound;
      start = refl;
      number = refl;
      fits = omega (arith, record_size (record_from (p.of h).start h kind key tail) sound, record_size (p.of h) there.stands.sound, t.take.size_is);
      unled = head.unled;
      unnamed = head.unnamed;
    }

-- where the record at the free list's head begins, as it was told
pub told_start : {bytes : List ℕ} {fields : ℕ} {p : PageParts} {kind : RecordKind} {key : FieldList} {tail : List ℕ} {size start : ℕ}
    → (t : CanTakeFree bytes fields p kind key tail size) → start ≡ head_start bytes fields (u16_at bytes 44) → start ≡ (p.of t.h).start
told_start {bytes} {fields} t told =
    let s = t.take.spells in
    told ∙ ap (head_start bytes fields) s.page.is.head.first_free ∙ (free_there t.h t.rest s t.free).start

pub told_fits : {bytes : List ℕ} {fields : ℕ} {p : PageParts} {kind : RecordKind} {key : FieldList} {tail : List ℕ} {size start : ℕ}
    → (t : CanTakeFree bytes fields p kind key tail size) → start ≡ (p.of t.h).start
    → FitsInPlace bytes p.mirror fields t.h (p.of t.h) (record_from start t.h kind key tail)
told_fits {bytes} {fields} {p} {kind} {key} {tail} t e =
    subst (λ (x : ℕ). FitsInPlace bytes p.mirror fields t.h (p.of t.h) (record_from x t.h kind key tail)) (sym e) (record_free_fits t)

told_equal : (a b : ℕ) → a ≡ b → nat_eq a b ≡ true
told_equal a b e = grind (arith, nat_tests)

told_apart : (a b : ℕ) → (a ≡ b → ⊥) → nat_eq a b ≡ false
told_apart a b other = grind (arith, nat_tests)

-- where the free list begins without its head
abbrev pub after_head : ℕ → ℕ → ℕ
after_head head next = cond (nat_eq next head) 0 next

after_is : {bytes : List ℕ} {m : Mirror} {next : ℕ} (h : ℕ) (rest : List ℕ) → HasOrigin bytes m h m.free → HasOrigin bytes m (m.next h) next → AreFree m.next (h ∷ rest)
    → AllByRecursion (λ k. k ≡ h → ⊥) rest → after_head m.free next ≡ free_origin m rest
after_is {m = m} {next} h [] at o a apart =
    let same : next ≡ m.free = sym o.placed ∙ ap (origin_of m) a.0 ∙ at.placed in
    let is : nat_eq next m.free ≡ true = told_equal next m.free same in
    rw is refl
after_is {bytes} {m} {next} h (k ∷ rest) at o a apart =
    let there : HasOrigin bytes m k next = subst (λ (x : ℕ). HasOrigin bytes m x next) a.0 o in
    let differ : next ≡ m.free → ⊥ = λ e. apart.0 (origin_once (subst (λ (x : ℕ). HasOrigin bytes m k x) e there) at) in
    let isnt : nat_eq next m.free ≡ false = told_apart next m.free differ in
    rw isnt (sym there.placed)

pub taken_free : {b0 b1 b2 : List ℕ} {fields : ℕ} {p : PageParts} {kind : RecordKind} {key : FieldList} {tail : List ℕ} {size at next : ℕ}
    → (t : CanTakeFree b0 fields p kind key tail size) → HasOrigin b0 p.mirror (p.mirror.next t.h) next
    → HasOrigin b1 (rewritten p.mirror t.h (cell_of (record_from (p.of t.h).start t.h kind key tail))) t.h at
    → Mirrors b2 (taken_mirror p.mirror t.h (cell_of (record_from (p.of t.h).start t.h kind key tail)) p.mirror.count p.mirror.top (after_head p.mirror.free next) (p.mirror.garbage - size))
    → IsTaken b2 fields p kind key tail at
taken_free {b0} {b1} {b2} {fields} {p} {kind} {key} {tail} {size} {at} {next} t on o is =
    let m = p.mirror in
    let h = t.h in
    let rest = t.rest in
    let s = t.take.spells in
    let list = records p.groups in
    let r = record_from (p.of h).start h kind key tail in
    let f = record_free_fits t in
    let head = free_head h rest s t.free in
    let there = free_there h rest s t.free in
    let free_on : AreFree m.next (h ∷ rest) = subst (AreFree m.next) t.free s.free_on in
    let rest_apart = each_right (λ k. k ≡ h → ⊥) list rest head.apart in
    let first = after_is h rest there.at on free_on rest_apart in
    let size_at : ℕ → ℕ = λ k. size_of_record (p.of k) in
    let f_at : ℕ → ℕ → ℕ = λ k x. cond (nat_eq x k) 1 0 in
    let moved : (k : ℕ) → count_by (λ x. nat_eq x k) (list ++ p.free) ≡ count_by (λ x. nat_eq x k) (h ∷ (list ++ rest)) =
    λ k. ap (λ (xs : List ℕ). count_by (λ x. nat_eq x k) (list ++ xs)) t.free ∙ sum_moved (f_at k) h list rest ∙ sym (sum_by-cons (f_at k) h (list ++ rest)) in
    let inside : AllByRecursion (λ k. k < m.count) (list ++ h ∷ rest) = subst (λ (xs : List ℕ). AllByRecursion (λ k. k < m.count) (list ++ xs)) t.free s.page.order.inside in
    let rows : AllByRecursion (StandsAsRow fields m p.of) (h ∷ rest) = subst (AllByRecursion (StandsAsRow fields m p.of)) t.free (each_right (StandsAsRow fields m p.of) p.inner p.free s.rows) in
    let freed = s.freed in
    let long = t.long in
    let sums = sum_by-cons size_at h rest in
    let all = ap (sum_by size_at) t.free in
    let from : TakenFrom fields p h r m.count m.top (after_head m.free next) (m.garbage - size) rest = record {
      more = omega arith;
      apart = head.apart;
      once = λ k. let old = s.page.order.once k in let more = counts_more k h (list ++ rest) in omega (arith, moved k);
      inside = each_append (λ k. k < m.count) list rest (each_left (λ k. k < m.count) list (h ∷ rest) inside) (each_right (λ k. k < m.count) list (h ∷ rest) inside).1;
      whole = λ k w. rw (← moved k) (s.whole k w);
      sound = f.sound;
      fields_are = t.take.count;
      free_rows = rows.1;
      free_from = first;
      free_on = free_on.1;
      used = omega (arith, s.used, t.take.size_is);
      freed = omega arith;
    } in
    record {
      h = h;
      start = (p.of h).start;
      count = m.count;
      top = m.top;
      first = after_head m.free next;
      garbage = m.garbage - size;
      free = rest;
      spells = taken_spells h r m.count m.top (after_head m.free next) (m.garbage - size) rest s from is;
      apart = head.apart;
      new_at = record { is = is; within = head.within; placed = o.placed };
      room = t.left;
    }

-- there is as much garbage as the record takes
pub wasted_enough : {bytes : List ℕ} {fields : ℕ} {p : PageParts} {kind : RecordKind} {key : FieldList} {tail : List ℕ} {size : ℕ}
    → (t : CanTakeFree bytes fields p kind key tail size) → size ≤ p.mirror.garbage
wasted_enough {p = p} t =
    let size_at : ℕ → ℕ = λ k. size_of_record (p.of k) in
    let freed = t.take.spells.freed in
    let long = t.long in
    omega (arith, sum_by-cons size_at t.h t.rest, ap (sum_by size_at) t.free)

-- which of the two it is
pub choose_free : {bytes : List ℕ} {fields : ℕ} {p : PageParts} {kind : RecordKind} {key : FieldList} {tail : List ℕ} {size : ℕ} → CanTake bytes fields p kind key tail size
    → (nat_le size (gaps_in_bytes bytes fields).head && nat_le 2 (gaps_in_bytes bytes fields).rest) ≡ true → CanTakeFree bytes fields p kind key tail size
choose_free {bytes} {fields} {p} {kind} {key} {tail} {size} t fits =
    let gaps = gaps_are t.spells in
    let low : size ≤ (gaps_in_bytes bytes fields).head = grind (arith, nat_tests, fits) in
    let left : 2 ≤ (gaps_in_bytes bytes fields).rest = grind (arith, nat_tests, fits) in
    let some_bytes = size_of_some (record_from 0 0 kind key tail) in
    let some = free_some t.spells (λ e. omega (arith, no_gap t.spells e, gaps.head, t.size_is)) in
    record {
      take = t;
      h = some.0;
      rest = some.1;
      free = some.2;
      long = omega (arith, gaps.head, (free_there some.0 some.1 t.spells some.2).gap);
      left = omega (arith, gaps.rest);
    }

pub choose_behind : {bytes : List ℕ} {fields : ℕ} {p : PageParts} {kind : RecordKind} {key : FieldList} {tail : List ℕ} {size : ℕ} → CanTake bytes fields p kind key tail size
    → (nat_le size (gaps_in_bytes bytes fields).head && nat_le 2 (gaps_in_bytes bytes fields).rest) ≡ false → CanTakeBehind bytes fields p kind key tail size
choose_behind {bytes} {fields} {p} {kind} {key} {tail} {size} t other =
    let gaps = gaps_are t.spells in
    let behind = takes_behind (gaps_in_bytes bytes fields) size t.room (λ a b. absurd (grind (arith, nat_tests, other, a, b))) in
    record { take = t; fits = omega (arith, gaps.rest, behind) }
