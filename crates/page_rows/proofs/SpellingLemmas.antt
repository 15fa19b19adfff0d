-- What is read from the bytes of a page is what stands in its list.
use Rattle.std.proofs.Common.{◌≡◌, ℕ, ◌<◌, ◌≤◌, Option, Some, None, IsSome, List, [], ◌∷◌, ◌++◌, map, length, nat_eq, count_by, false, cond, refl, sym, ap, subst, ◌∙◌, arith, length-append}
use Rattle.std.proofs.lemmas.List.{append_assoc, map-append, length-map}
use Rattle.std.proofs.lemmas.Bool.Decides.{nat_tests}
use Rattle.std.specs.List.{AllByRecursion}
use Rattle.list_facts.proofs.Each.{each_left, each_right}
use Rattle.compact_record.specs.Bytes.{u16_at}
use Rattle.page_mirror.specs.Cells.{end_in, origin_in}
use Rattle.page_mirror.specs.Words.{next_origin}
use Rattle.page_mirror.specs.Mirror.{Mirror, Mirrors, IsHeap, origin_of}
use Rattle.page_mirror.specs.Steps.{HasOrigin}
use Rattle.page_directory.specs.Groups.{records, AreLinked}
use Rattle.page_directory.proofs.ListLemmas.{counted_apart, linked_right}
use Rattle.index_page.specs.Rows.{Row, find_row, first_of_rows, IsAt}
use Rattle.index_page.specs.Changes.{NextIs}
use Rattle.page_rows.specs.Reading.{places_from, row_of_record, row_in_bytes, rows_in_bytes}
use Rattle.compact_record.specs.Record.{PlacedRecord}
use Rattle.compact_record.specs.Reading.{HasRecord}
use Rattle.compact_record.proofs.LawLemmas.{record_there, record_read}
use Rattle.page_heap.proofs.CellLemmas.{record_in_page}
use Rattle.page_rows.specs.Spelling.{StandsAsRow, PageParts, SpellsRows, IsPageOfRows}
use Rattle.page_rows.proofs.PlaceLemmas.{IsListed, found_listed, listed_found, first_place, first_is_at, length-places_from}

-- the places that are read are those of the records
places_read : (bytes : List ℕ) (m : Mirror) → Mirrors bytes m → (h : ℕ) (hs : List ℕ) (end : ℕ)
    → AllByRecursion (λ k. k < m.count) (h ∷ (hs ++ end ∷ [])) → AreLinked m.next (h ∷ (hs ++ end ∷ []))
    → places_from bytes (next_origin bytes (origin_of m h)) (length hs) ≡ map (origin_of m) hs
unfolding places_from
places_read bytes m r h [] end inside linked = refl
places_read bytes m r h (x ∷ xs) end inside linked =
    let leads : next_origin bytes (origin_of m h) ≡ origin_of m x = (r.cells h inside.0).leads ∙ ap (origin_of m) linked.0 in
    rw leads (ap (λ (ys : List ℕ). origin_of m x ∷ ys) (places_read bytes m r x xs end inside.1 linked.1))

-- the list of a page, from infimum to supremum
pub record IsWhole (m : Mirror) (inner : List ℕ) : Type 0 where
  pub inside : AllByRecursion (λ h. h < m.count) (0 ∷ (inner ++ 1 ∷ []))
  pub linked : AreLinked m.next (0 ∷ (inner ++ 1 ∷ []))
  pub low : AllByRecursion (λ h. h ≡ 0 → ⊥) inner
  pub high : AllByRecursion (λ h. h ≡ 1 → ⊥) inner
  pub rows : m.rows ≡ length inner

pub whole_list : {bytes : List ℕ} {fields : ℕ} {p : PageParts} {loose : List ℕ} → SpellsRows bytes fields p loose → IsWhole p.mirror p.inner
whole_list {bytes} {fields} {p} r =
    let m = p.mirror in
    let gs = p.groups in
    let free = p.free in
    let inner = p.inner in
    let order = r.page.order in
    let once : (h : ℕ) → count_by (λ k. nat_eq k h) ((0 ∷ (inner ++ 1 ∷ [])) ++ free) ≤ 1 = rw r.list at order.once in
    let cut : (0 ∷ (inner ++ 1 ∷ [])) ++ free ≡ (0 ∷ inner) ++ 1 ∷ free = simp append_assoc in
    let from_zero = counted_apart 0 [] ((inner ++ 1 ∷ []) ++ free) (once 0) in
    let from_one = counted_apart 1 (0 ∷ inner) free (rw (← cut) (once 1)) in
    record {
      inside = rw r.list at (each_left (λ h. h < m.count) (records gs) free order.inside);
      linked = rw r.list at order.linked;
      low = each_left (λ h. h ≡ 0 → ⊥) inner (1 ∷ []) (each_left (λ h. h ≡ 0 → ⊥) (inner ++ 1 ∷ []) free from_zero.1);
      high = from_one.0.1;
      rows = omega (arith, order.rows, ap length r.list, length-append inner (1 ∷ []));
    }

-- infimum and supremum stand where they do on each page
pub infimum_at : {bytes : List ℕ} {m : Mirror} → Mirrors bytes m → HasOrigin bytes m 0 99
infimum_at {m = m} r =
    let some = r.heap.some in
    record { is = r; within = omega arith; placed = ap origin_in r.heap.first }

pub supremum_at : {bytes : List ℕ} {m : Mirror} → Mirrors bytes m → origin_of m 1 ≡ 112
supremum_at r = ap origin_in r.heap.second

-- a row's record stands behind them
behind : {count top : ℕ} {cell : _} → IsHeap count cell top → (h : ℕ) → h < count → (h ≡ 0 → ⊥) → (h ≡ 1 → ⊥) → 120 < origin_in (cell h)
behind {cell = cell} heap h w first second =
    let end : end_in (cell 1) ≡ 120 = ap end_in heap.second in
    let after = heap.apart 1 h (omega (arith, first, second)) w in
    omega arith

-- the rows that are read are those of the list
pub rows_spelled : {bytes : List ℕ} {fields : ℕ} {p : PageParts} {loose : List ℕ} → SpellsRows bytes fields p loose
    → rows_in_bytes bytes fields ≡ map (row_in_bytes bytes fields) (map (origin_of p.mirror) p.inner)
rows_spelled {bytes} {fields} {p} r =
    let m = p.mirror in
    let inner = p.inner in
    let whole = whole_list r in
    let count : u16_at bytes 54 ≡ length inner = r.page.is.head.n_recs ∙ whole.rows in
    let start : next_origin bytes 99 ≡ next_origin bytes (origin_of m 0) = ap (next_origin bytes) (sym (infimum_at r.page.is).placed) in
    ap (map (row_in_bytes bytes fields)) (rw (count, start) (places_read bytes m r.page.is 0 inner 1 whole.inside whole.linked))

-- the row of a record of the list
abbrev pub row_of : PageParts → ℕ → Row
row_of p h = row_of_record (origin_of p.mirror h) (p.of h)

rows_each : (bytes : List ℕ) (fields : ℕ) (p : PageParts) → Mirrors bytes p.mirror → (hs : List ℕ) → AllByRecursion (λ h. h < p.mirror.count) hs
    → AllByRecursion (StandsAsRow fields p.mirror p.of) hs → map (row_in_bytes bytes fields) (map (origin_of p.mirror) hs) ≡ map (row_of p) hs
rows_each bytes fields p is [] inside stands = refl
rows_each bytes fields p is (h ∷ hs) inside stands =
    let s = stands.0 in
    let at : HasOrigin bytes p.mirror h (origin_of p.mirror h) = record { is = is; within = inside.0; placed = refl } in
    let read = record_read bytes (origin_of p.mirror h) fields (p.of h) (record_in_page fields (p.of h) at s.cell s.sound s.count) in
    rw read (ap (λ (xs : List Row). row_of p h ∷ xs) (rows_each bytes fields p is hs inside.1 stands.1))

-- the rows that are read are those of the records
pub rows_are : {bytes : List ℕ} {fields : ℕ} {p : PageParts} {loose : List ℕ} → SpellsRows bytes fields p loose → rows_in_bytes bytes fields ≡ map (row_of p) p.inner
rows_are {bytes} {fields} {p} {loose} r =
    let m = p.mirror in
    let stands = each_left (StandsAsRow fields m p.of) p.inner p.free (each_right (StandsAsRow fields m p.of) loose (p.inner ++ p.free) r.rows) in
    rows_spelled r ∙ rows_each bytes fields p r.page.is p.inner (each_left (λ h. h < m.count) p.inner (1 ∷ []) (whole_list r).inside.1) stands

-- there are as many as the head says
pub count_rows : (bytes : List ℕ) (fields : ℕ) → length (rows_in_bytes bytes fields) ≡ u16_at bytes 54
count_rows bytes fields =
    length-map (places_from bytes (next_origin bytes 99) (u16_at bytes 54)) (row_in_bytes bytes fields)
    ∙ length-places_from bytes (next_origin bytes 99) (u16_at bytes 54)

-- the place, if it isn't supremum's
abbrev pub told : ℕ → Option ℕ
told place = cond (nat_eq place 112) None (Some place)

told_none : (place : ℕ) → place ≡ 112 → told place ≡ None
told_none place e = rw e refl

told_some : (place : ℕ) → 120 < place → told place ≡ Some place
told_some place b = let e : nat_eq place 112 ≡ false = grind (arith, nat_tests) in rw e refl

-- what a record leads to is the first of those behind it
pub told_first : {bytes : List ℕ} {m : Mirror} → Mirrors bytes m → (h : ℕ) (hs : List ℕ) → AllByRecursion (λ k. k < m.count) (hs ++ 1 ∷ [])
    → AreLinked m.next (h ∷ (hs ++ 1 ∷ [])) → AllByRecursion (λ k. k ≡ 0 → ⊥) hs → AllByRecursion (λ k. k ≡ 1 → ⊥) hs
    → told (origin_of m (m.next h)) ≡ first_place (origin_of m) hs
told_first {m = m} r h [] inside linked low high = told_none (origin_of m (m.next h)) (ap (origin_of m) linked.0 ∙ supremum_at r)
told_first {m = m} r h (x ∷ xs) inside linked low high =
    rw linked.0 (told_some (origin_of m x) (behind r.heap x inside.0 low.0 high.0))

-- the next row of the one at a place
pub next_is : {bytes : List ℕ} {fields : ℕ} {p : PageParts} (place next : ℕ)
    → SpellsRows bytes fields p [] → (l : IsListed (origin_of p.mirror) p.inner place) → next ≡ origin_of p.mirror (p.mirror.next l.here)
    → NextIs (rows_in_bytes bytes fields) place (told next)
next_is {bytes} {fields} {p} place next r l leads =
    let m = p.mirror in
    let inner = p.inner in
    let whole = whole_list r in
    let row = row_in_bytes bytes fields in
    let end : 0 ∷ (inner ++ 1 ∷ []) ≡ (0 ∷ l.low) ++ l.here ∷ (l.high ++ 1 ∷ []) = ap (λ (xs : List ℕ). 0 ∷ (xs ++ 1 ∷ [])) l.is ∙ simp append_assoc in
    let linked = linked_right m.next (0 ∷ l.low) (l.here ∷ (l.high ++ 1 ∷ [])) (subst (AreLinked m.next) end whole.linked) in
    let inside = each_right (λ h. h < m.count) (0 ∷ l.low) (l.here ∷ (l.high ++ 1 ∷ [])) (subst (AllByRecursion (λ h. h < m.count)) end whole.inside) in
    let low = each_right (λ h. h ≡ 0 → ⊥) l.low (l.here ∷ l.high) (subst (AllByRecursion (λ h. h ≡ 0 → ⊥)) l.is whole.low) in
    let high = each_right (λ h. h ≡ 1 → ⊥) l.low (l.here ∷ l.high) (subst (AllByRecursion (λ h. h ≡ 1 → ⊥)) l.is whole.high) in
    let rows : rows_in_bytes bytes fields ≡ map row (map (origin_of m) (l.low ++ l.here ∷ l.high)) = rows_spelled r ∙ ap (λ (xs : List ℕ). map row (map (origin_of m) xs)) l.is in
    let split : map row (map (origin_of m) (l.low ++ l.here ∷ l.high)) ≡ map row (map (origin_of m) l.low) ++ row (origin_of m l.here) ∷ map row (map (origin_of m) l.high) =
    ap (map row) (map-append (origin_of m) l.low (l.here ∷ l.high)) ∙ map-append row (map (origin_of m) l.low) (map (origin_of m) (l.here ∷ l.high)) in
    let first : told next ≡ first_place (origin_of m) l.high = ap told leads ∙ told_first r.page.is l.here l.high inside.1 linked low.1 high.1 in
    let cut : l.low ++ l.here ∷ l.high ≡ (l.low ++ l.here ∷ []) ++ l.high = simp append_assoc in
    rw (rows, first) (record {
      left = map row (map (origin_of m) l.low);
      row = row (origin_of m l.here);
      right = map row (map (origin_of m) l.high);
      split = split;
      place_is = l.placed;
      next_at = rw cut (first_is_at bytes fields (origin_of m) (l.low ++ l.here ∷ []) l.high);
    })

-- the record of a row that is found
pub record IsFoundIn (bytes : List ℕ) (fields : ℕ) (m : Mirror) (of : ℕ → PlacedRecord) (inner : List ℕ) (place : ℕ) : Type 0 where
  pub listed : IsListed (origin_of m) inner place
  pub at : HasOrigin bytes m listed.here place
  pub stands : StandsAsRow fields m of listed.here

pub found_in : {bytes : List ℕ} {fields : ℕ} (place : ℕ) → (p : IsPageOfRows bytes fields) → IsSome (find_row place (rows_in_bytes bytes fields))
    → IsFoundIn bytes fields p.parts.mirror p.parts.of p.parts.inner place
found_in {bytes} {fields} place p there =
    let m = p.parts.mirror in
    let inner = p.parts.inner in
    let r = p.spells in
    let l = found_listed bytes fields (origin_of m) inner place (rw (rows_spelled r) at there) in
    let each = subst (AllByRecursion (λ h. h < m.count)) l.is (each_left (λ h. h < m.count) inner (1 ∷ []) (whole_list r).inside.1) in
    let rows = subst (AllByRecursion (StandsAsRow fields m p.parts.of)) l.is (each_left (StandsAsRow fields m p.parts.of) inner p.parts.free r.rows) in
    record {
      listed = l;
      at = record { is = r.page.is; within = (each_right (λ h. h < m.count) l.low (l.here ∷ l.high) each).0; placed = l.placed };
      stands = (each_right (StandsAsRow fields m p.parts.of) l.low (l.here ∷ l.high) rows).0;
    }

-- a row stands at the place at which one is found, and it is the one that is read there
pub row_there : {bytes : List ℕ} {fields : ℕ} (place : ℕ) → IsPageOfRows bytes fields → IsSome (find_row place (rows_in_bytes bytes fields)) → HasRecord bytes place fields
row_there {bytes} {fields} place p there =
    let f = found_in place p there in
    let s = f.stands in
    let r = p.parts.of f.listed.here in
    record_there bytes place fields r (record_in_page fields r f.at s.cell s.sound s.count)

pub row_found : {bytes : List ℕ} {fields : ℕ} (place : ℕ) → IsPageOfRows bytes fields → IsSome (find_row place (rows_in_bytes bytes fields))
    → find_row place (rows_in_bytes bytes fields) ≡ Some (row_in_bytes bytes fields place)
row_found {bytes} {fields} place p there =
    let m = p.parts.mirror in
    let r = p.spells in
    let l = found_listed bytes fields (origin_of m) p.parts.inner place (rw (rows_spelled r) at there) in
    let row = row_in_bytes bytes fields in
    let rows_are : rows_in_bytes bytes fields ≡ map row (map (origin_of m) (l.low ++ l.here ∷ l.high)) = rows_spelled r ∙ ap (λ (xs : List ℕ). map row (map (origin_of m) xs)) l.is in
    ap (find_row place) rows_are
    ∙ subst (λ (at : ℕ). find_row at (map row (map (origin_of m) (l.low ++ l.here ∷ l.high))) ≡ Some (row at)) l.placed
    (listed_found bytes fields (origin_of m) l.low l.here l.high)

-- the first row is the one that infimum leads to
pub first_is : {bytes : List ℕ} {fields : ℕ} {p : PageParts} (next : ℕ)
    → SpellsRows bytes fields p [] → next ≡ origin_of p.mirror (p.mirror.next 0)
    → IsAt (rows_in_bytes bytes fields) (told next) (first_of_rows (rows_in_bytes bytes fields))
first_is {bytes} {fields} {p} next r leads =
    let m = p.mirror in
    let inner = p.inner in
    let whole = whole_list r in
    let first : told next ≡ first_place (origin_of m) inner = ap told leads ∙ told_first r.page.is 0 inner whole.inside.1 whole.linked whole.low whole.high in
    rw (rows_spelled r, first) (first_is_at bytes fields (origin_of m) [] inner)
