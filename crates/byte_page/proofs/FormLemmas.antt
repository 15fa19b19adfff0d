-- A page's head, rows and gaps after a call.
use Rattle.std.proofs.Common.{◌≡◌, ℕ, ◌+◌, ◌-◌, ◌*◌, ◌<◌, ◌≤◌, true, Option, List, [], ◌∷◌, ◌++◌, length, take, drop, slice_index, All, refl, sym, ap, ap₂, subst, ◌∙◌, arith}
use Rattle.std.specs.List.{insert}
use Rattle.std.proofs.lemmas.List.{take_at, drop_at}
use Rattle.std.proofs.lemmas.List.Sums.{sum_by-cons}
use Rattle.std.proofs.lemmas.List.Elements.{All-cons, All-nil}
use Rattle.list_facts.proofs.Each.{each_weaker}
use Rattle.compact_record.specs.Record.{PlacedRecord}
use Rattle.key_tuple.specs.Order.{FieldList, byte_count}
use Rattle.key_tuple.specs.Limits.{IsWithinLimits}
use Rattle.key_tuple.specs.KeyPlace.{not_below}
use Rattle.compact_record.specs.declared.kind.RecordKind.{RecordKind}
use Rattle.compact_record.specs.declared.TheConstants.{LENGTH_LIMIT}
use Rattle.compact_record.specs.Bytes.{u16_at, SameOutside}
use Rattle.compact_record.specs.Kind.{status_bits}
use Rattle.compact_record.specs.Record.{IsRecord, record_size_of}
use Rattle.page_mirror.specs.Mirror.{Mirrors}
use Rattle.page_mirror.specs.Empty.{empty_mirror}
use Rattle.page_heap.specs.Heap.{record_from}
use Rattle.index_page.specs.declared.TheConstants.{PAGE_ROOM}
use Rattle.index_page.specs.declared.head.PageHead.{PageHead}
use Rattle.index_page.specs.declared.room.Gaps.{Gaps}
use Rattle.index_page.specs.Rows.{Row, placed_row, LacksKey}
use Rattle.index_page.specs.Page.{PageRows, IsNeighbour, linked, IsPageInOrder, IsRowOf, FitsLevel, HasShortValue, PlacesDiffer}
use Rattle.index_page.specs.Search.{AllOut, AllIn}
use Rattle.index_page.specs.Loads.{charge_of, load_of}
use Rattle.index_page.specs.Changes.{Inserts}
use Rattle.index_page.specs.Refusals.{takes}
use Rattle.index_page.proofs.OrderLemmas.{inserted_order, inserts}
use Rattle.page_rows.specs.Slots.{sizes_in_bytes}
use Rattle.page_rows.proofs.SizeLemmas.{sizes_told}
use Rattle.page_rows.specs.Reading.{rows_in_bytes, body_of_kind}
use Rattle.page_rows.specs.Spelling.{size_of_record, free_origin, StandsAsRow, PageParts, SpellsRows}
use Rattle.page_rows.specs.Inserting.{head_gap, gaps_in_bytes, CanInsertRow, InsertsInBytes}
use Rattle.page_rows.proofs.SpellingLemmas.{rows_are}
use Rattle.page_rows.proofs.RoomLemmas.{free_there, no_gap}
use Rattle.page_rows.proofs.EmptyRowsLemmas.{empty_spells, empty_is_page}
use Rattle.page_rows.proofs.DifferLemmas.{rows_differ}
use Rattle.page_rows.proofs.SumLemmas.{charge_of_record}
use Rattle.page_search.specs.Cuts.{CutsRows}
use Rattle.byte_page.specs.Form.{u32_at, neighbour, head_in_bytes, page_in_bytes, GappedPage, form_in_bytes, IsBytePage, SameFront}
use Rattle.byte_page.proofs.FrontLemmas.{head_same, links_written, linked_head}

-- a page without rows is in order
none_in_order : (head : PageHead) → IsNeighbour head.prev → IsNeighbour head.next → IsPageInOrder (record { head = head; rows = [] })
none_in_order head prev next = record { ascend = tt; places = tt; each = tt; fits = omega arith; prev = prev; next = next }

pub empty_rows : (bytes old : List ℕ) (fields : ℕ) → Mirrors bytes (empty_mirror old) → rows_in_bytes bytes fields ≡ []
empty_rows bytes old fields r = rows_are (empty_spells bytes old fields r)

-- the front of the page without rows is what it was
pub empty_front : (bytes old : List ℕ) → Mirrors bytes (empty_mirror old) → SameFront old bytes
empty_front bytes old r = record { low = r.fixed.front; high = r.fixed.back }

pub empty_page_in_order : (bytes old : List ℕ) (head : PageHead) → Mirrors bytes (empty_mirror old) → head_in_bytes old head.fields ≡ head → IsNeighbour head.prev → IsNeighbour head.next
    → IsBytePage bytes head.fields
empty_page_in_order bytes old head r is prev next = record {
  rows = empty_is_page bytes old head.fields r;
  order = subst IsPageInOrder
      (ap₂ (λ (h : PageHead) (rows : List Row). let p : PageRows = record { head = h; rows = rows } in p) (sym (head_same head.fields (empty_front bytes old r) ∙ is)) (sym (empty_rows bytes old head.fields r)))
      (none_in_order head prev next);
}

-- the parts of a page with other neighbours
abbrev pub linked_parts : List ℕ → PageParts → PageParts
linked_parts new p = record p { mirror = record (p.mirror) { fixed = λ k. slice_index new k } }

linked_spells : {old new : List ℕ} {fields : ℕ} {p : PageParts} → SpellsRows old fields p [] → SameOutside old new 8 16 → SpellsRows new fields (linked_parts new p) []
linked_spells {old} {new} {fields} {p} s same = record {
  page = record {
    is = links_written s.page.is same;
    groups = record { slots = s.page.groups.slots; owned = s.page.groups.owned };
    order = record { linked = s.page.order.linked; once = s.page.order.once; inside = s.page.order.inside; rows = s.page.order.rows };
  };
  sizes = s.sizes;
  list = s.list;
  whole = s.whole;
  last = s.last;
  rows = each_weaker (StandsAsRow fields p.mirror p.of) (StandsAsRow fields (record (p.mirror) { fixed = λ k. slice_index new k }) p.of)
      (λ k r. record { cell = r.cell; sound = r.sound; count = r.count }) (p.inner ++ p.free) s.rows;
  free_from = s.free_from;
  free_on = s.free_on;
  used = s.used;
  freed = s.freed;
}

-- the gaps by the parts of the page
abbrev pub head_size : (ℕ → PlacedRecord) → List ℕ → ℕ
head_size of [] = 0
head_size of (h ∷ hs) = size_of_record (of h)

gaps_with : (a a' b b' c c' : ℕ) → a ≡ a' → b ≡ b' → c ≡ c' → (let x : Gaps = record { head = a; rest = 16376 - 2 * b - c } in x) ≡ (let y : Gaps = record { head = a'; rest = 16376 - 2 * b' - c' } in y)
gaps_with a a' b b' c c' e f g = λ i. record { head = e i; rest = 16376 - 2 * f i - g i }

gaps_by : {bytes : List ℕ} {fields : ℕ} {p : PageParts} → SpellsRows bytes fields p []
    → gaps_in_bytes bytes fields ≡ (let g : Gaps = record { head = head_size p.of p.free; rest = 16376 - 2 * length p.mirror.slots - p.mirror.top } in g)
gaps_by {bytes} {fields} {p} s = gaps_with _ _ _ _ _ _ (ap (head_gap bytes fields) s.page.is.head.first_free ∙ go p.free refl) s.page.is.head.dir_slots s.page.is.head.heap_top
  where
    go : (free : List ℕ) → p.free ≡ free → head_gap bytes fields p.mirror.free ≡ head_size p.of free
    go [] e = no_gap s (s.free_from ∙ ap (free_origin p.mirror) e)
    go (h ∷ hs) e = (free_there h hs s e).gap

-- the page with other neighbours
pub record Links (old new : List ℕ) (fields : ℕ) (prev next : Option ℕ) : Type 0 where
  pub page : IsBytePage new fields
  pub head : head_in_bytes new fields ≡ linked (head_in_bytes old fields) prev next
  pub rows : rows_in_bytes new fields ≡ rows_in_bytes old fields
  pub gaps : gaps_in_bytes new fields ≡ gaps_in_bytes old fields
  pub garbage : u16_at new 46 ≡ u16_at old 46
  pub slots : sizes_in_bytes new ≡ sizes_in_bytes old

pub links : {old new : List ℕ} {fields : ℕ} (prev next : Option ℕ) → IsBytePage old fields → SameOutside old new 8 16 → neighbour (u32_at new 8) ≡ prev → neighbour (u32_at new 12) ≡ next
    → IsNeighbour prev → IsNeighbour next → Links old new fields prev next
links {old} {new} {fields} prev next b same prev_is next_is prev_ok next_ok =
    let p = b.rows.parts in
    let s = b.rows.spells in
    let t = linked_spells s same in
    let rows : rows_in_bytes new fields ≡ rows_in_bytes old fields = rows_are t ∙ sym (rows_are s) in
    let head : head_in_bytes new fields ≡ linked (head_in_bytes old fields) prev next = linked_head fields same prev next prev_is next_is in
    record {
      page = record {
        rows = record { parts = linked_parts new p; spells = t };
        order = subst IsPageInOrder (ap₂ (λ (h : PageHead) (xs : List Row). let q : PageRows = record { head = h; rows = xs } in q) (sym head) (sym rows)) (record {
          ascend = b.order.ascend;
          places = b.order.places;
          each = each_weaker (IsRowOf (head_in_bytes old fields)) (IsRowOf (linked (head_in_bytes old fields) prev next))
              (λ x r. record { fields = r.fields; limits = r.limits; body = r.body; short = r.short }) (rows_in_bytes old fields) b.order.each;
          fits = b.order.fits;
          prev = prev_ok;
          next = next_ok;
        });
      };
      head = head;
      rows = rows;
      gaps = gaps_by t ∙ sym (gaps_by s);
      garbage = t.page.is.head.garbage ∙ sym s.page.is.head.garbage;
      slots = sizes_told t.page ∙ sym (sizes_told s.page);
    }

-- the rows with one more between those that the cut parts
insert_between : (left right : List Row) (row : Row) → insert (left ++ right) (length left) row ≡ left ++ row ∷ right
insert_between left right row = ap₂ (λ (xs ys : List Row). xs ++ row ∷ ys) (take_at left right (length left) refl) (drop_at left right (length left) refl)

pub record RowEnters (old new : List ℕ) (fields : ℕ) (row : Row) : Type 0 where
  pub page : IsBytePage new fields
  pub inserts : Inserts (page_in_bytes old fields) (page_in_bytes new fields) row

pub row_enters : {old new : List ℕ} {fields before : ℕ} (row : Row) → IsBytePage old fields → (c : CutsRows (rows_in_bytes old fields) (not_below row.key) before) → InsertsInBytes old new fields c.left c.right row
    → IsRowOf (head_in_bytes old fields) row → LacksKey row.key (rows_in_bytes old fields) → load_of (rows_in_bytes old fields) + charge_of row.key row.body ≤ PAGE_ROOM → RowEnters old new fields row
row_enters {old} {new} {fields} row b c i suits lacks room =
    let page = page_in_bytes old fields in
    let k = length c.left in
    let head = head_same fields (record { low = i.low; high = i.high }) in
    let at : insert (rows_in_bytes old fields) k row ≡ rows_in_bytes new fields = ap (λ (xs : List Row). insert xs k row) c.split ∙ insert_between c.left c.right row ∙ sym i.rows in
    let low : take k (rows_in_bytes old fields) ≡ c.left = ap (take k) c.split ∙ take_at c.left c.right k refl in
    let high : drop k (rows_in_bytes old fields) ≡ c.right = ap (drop k) c.split ∙ drop_at c.left c.right k refl in
    let differ : PlacesDiffer (insert (rows_in_bytes old fields) k row) = subst PlacesDiffer (sym at) (rows_differ i.page) in
    let order = inserted_order page row k b.order suits lacks (subst (AllOut (not_below row.key)) (sym low) c.out) (subst (AllIn (not_below row.key)) (sym high) c.past) room differ in
    let whole : page_in_bytes new fields ≡ (let q : PageRows = record { head = page.head; rows = insert page.rows k row } in q) =
    ap₂ (λ (h : PageHead) (xs : List Row). let q : PageRows = record { head = h; rows = xs } in q) head (sym at) in
    let in_order = subst IsPageInOrder (sym whole) order in
    record {
      page = record { rows = i.page; order = in_order };
      inserts = inserts page row k b.order (page_in_bytes new fields) whole in_order i.vacant;
    }

-- fields that are short enough together are so each
fields_short : (fields : FieldList) (n : ℕ) → byte_count fields ≤ n → n < LENGTH_LIMIT → All (λ field. length field < LENGTH_LIMIT) fields
fields_short [] n few low = All-nil (λ field. length field < LENGTH_LIMIT)
fields_short (x ∷ xs) n few low =
    let split = sum_by-cons length x xs in
    All-cons (λ field. length field < LENGTH_LIMIT) x xs (omega arith) (fields_short xs n (omega arith) low)

-- such a record may be written
pub may_be_written : (kind : RecordKind) (key : FieldList) (tail : List ℕ) → IsWithinLimits key → length tail ≤ 2048 → (status_bits kind ≡ 1 → length tail ≡ 4) → IsRecord (record_from 0 0 kind key tail)
may_be_written kind key tail limits short child =
    let few = limits.short in
    record { number = omega arith; key = fields_short key _ few (omega arith); tail = omega arith; child = child }

-- it may come where the cut is
pub can_be_inserted : {bytes : List ℕ} {fields before size : ℕ} {kind : RecordKind} {key : FieldList} {tail : List ℕ} → IsBytePage bytes fields → (c : CutsRows (rows_in_bytes bytes fields) (not_below key) before)
    → IsRecord (record_from 0 0 kind key tail) → length key ≡ fields → size ≡ record_size_of kind key tail → takes (gaps_in_bytes bytes fields) size ≡ true
    → CanInsertRow bytes fields c.left c.right before kind key tail size
can_be_inserted b c sound count size room = record {
  page = b.rows;
  rows = c.split;
  before_is = c.before_is;
  sound = sound;
  count = count;
  size_is = size;
  room = room;
}

-- its row's charge is its size and one byte
pub charge_by_size : (kind : RecordKind) (key : FieldList) (tail : List ℕ) (place size : ℕ) → size ≡ record_size_of kind key tail
    → charge_of (placed_row place key (body_of_kind kind tail)).key (placed_row place key (body_of_kind kind tail)).body ≡ size + 1
charge_by_size kind key tail place size is = omega (arith, charge_of_record place (record_from 0 0 kind key tail))

-- the page with the row, as the form of the page tells what the row needs
pub row_put : {old new : List ℕ} {fields before size place : ℕ} (kind : RecordKind) {key : FieldList} (tail : List ℕ) (form : GappedPage) → form_in_bytes old fields ≡ form → IsBytePage old fields
    → (c : CutsRows (rows_in_bytes old fields) (not_below key) before) → InsertsInBytes old new fields c.left c.right (placed_row place key (body_of_kind kind tail))
    → length key ≡ form.page.head.fields → IsWithinLimits key → LacksKey key form.page.rows → FitsLevel form.page.head.level (body_of_kind kind tail) → HasShortValue (body_of_kind kind tail)
    → size ≡ record_size_of kind key tail → load_of form.page.rows + size + 1 ≤ PAGE_ROOM → RowEnters old new fields (placed_row place key (body_of_kind kind tail))
row_put {old} {new} {fields} {before} {size} {place} kind {key} tail form is b c i count limits lacks level short size_is room =
    let row : Row = placed_row place key (body_of_kind kind tail) in
    let charged = charge_by_size kind key tail place size size_is in
    row_enters row b c i (record {
      fields = count ∙ sym (ap (λ (f : GappedPage). f.page.head.fields) is);
      limits = limits;
      body = subst (λ (f : GappedPage). FitsLevel f.page.head.level (body_of_kind kind tail)) (sym is) level;
      short = short;
    })
    (subst (λ (f : GappedPage). LacksKey key f.page.rows) (sym is) lacks)
    (omega (arith, charged, ap (λ (f : GappedPage). load_of f.page.rows) is))
