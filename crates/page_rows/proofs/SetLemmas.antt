-- The rows of a page where one has another value, as long as before.
use Rattle.std.proofs.Common.{◌≡◌, ℕ, ◌+◌, ◌-◌, ◌≤◌, List, [], ◌∷◌, ◌++◌, length, map, nat_eq, count_by, refl, sym, ap, ap₂, subst, ◌∙◌, arith, length-append, inl}
use Rattle.std.proofs.lemmas.List.{append_assoc, map-append}
use Rattle.std.specs.List.{AllByRecursion, concat}
use Rattle.list_facts.proofs.Each.{each_left, each_right}
use Rattle.compact_record.specs.declared.kind.RecordKind.{RecordKind}
use Rattle.compact_record.specs.declared.kind.RecordKind.TheVariants as kinds
use Rattle.compact_record.specs.Bytes.{SpellsAt, SameOutside}
use Rattle.compact_record.specs.Record.{PlacedRecord, finish}
use Rattle.compact_record.specs.Reading.{record_at}
use Rattle.compact_record.proofs.BytesLemmas.{spells_kept, spells-append, spells_front}
use Rattle.compact_record.proofs.LawLemmas.{record_read}
use Rattle.page_mirror.specs.Cells.{Cell, origin_in, end_in}
use Rattle.page_mirror.specs.Mirror.{Mirrors, changed, origin_of}
use Rattle.page_mirror.proofs.KeptLemmas.{changed-same, changed-other}
use Rattle.page_heap.specs.Heap.{cell_of}
use Rattle.page_heap.proofs.CellLemmas.{cell_end, record_in_page}
use Rattle.page_directory.specs.Groups.{records}
use Rattle.page_directory.proofs.ListLemmas.{counted_apart}
use Rattle.index_page.specs.Rows.{Row, RowBody, Bytes, placed_row}
use Rattle.page_rows.specs.Reading.{body_of_kind, row_of_record}
use Rattle.page_rows.specs.Spelling.{free_origin, size_of_record, PageParts, SpellsRows}
use Rattle.index_page.specs.declared.room.Gaps.{Gaps}
use Rattle.page_rows.specs.Inserting.{head_gap, gaps_in_bytes}
use Rattle.page_rows.specs.Setting.{with_tail, set_parts, CanSetValue, SetsInBytes}
use Rattle.page_rows.proofs.SizeLemmas.{sizes_told}
use Rattle.page_rows.proofs.SpellingLemmas.{row_of, rows_are, whole_list}
use Rattle.page_rows.proofs.RoomLemmas.{free_there, no_gap, gaps_are}
use Rattle.page_rows.proofs.BodyLemmas.{with_body, body_written}
use Rattle.page_rows.proofs.TailLemmas.{tail_is_body, size_set, origin_set, set_spells}
use Rattle.page_rows.proofs.DeleteRowLemmas.{row_between}

-- what carries a value is a row's record, and the value its tail
value_is : (kind : RecordKind) (tail before : List ℕ) → body_of_kind kind tail ≡ Bytes before → tail ≡ before
value_is kinds.Row tail before e = cc
value_is kinds.Pointer tail before e = absurd cc
value_is kinds.LeftmostPointer tail before e = absurd cc

body_set : (kind : RecordKind) (tail before value : List ℕ) → body_of_kind kind tail ≡ Bytes before → body_of_kind kind value ≡ Bytes value
body_set kinds.Row tail before value e = refl
body_set kinds.Pointer tail before value e = absurd cc
body_set kinds.LeftmostPointer tail before value e = absurd cc

-- the record of a row is neither infimum nor supremum, and stands once in the list
pub differ_from : {bytes : List ℕ} {fields : ℕ} (p : PageParts) → SpellsRows bytes fields p [] → (h : ℕ) (low high : List ℕ) → p.inner ≡ low ++ h ∷ high
    → (AllByRecursion (λ k. k ≡ h → ⊥) low) × (AllByRecursion (λ k. k ≡ h → ⊥) high)
differ_from p s h low high inner =
    let differ : ℕ → Type 0 = λ k. k ≡ h → ⊥ in
    let list : records p.groups ++ p.free ≡ (0 ∷ low) ++ h ∷ ((high ++ 1 ∷ []) ++ p.free) =
    ap (λ (xs : List ℕ). xs ++ p.free) (s.list ∙ ap (λ (xs : List ℕ). 0 ∷ (xs ++ 1 ∷ [])) inner) ∙ simp append_assoc in
    let from = counted_apart h (0 ∷ low) ((high ++ 1 ∷ []) ++ p.free) (subst (λ (xs : List ℕ). count_by (λ x. nat_eq x h) xs ≤ 1) list (s.page.order.once h)) in
    (from.0.1, each_left differ high (1 ∷ []) (each_left differ (high ++ 1 ∷ []) p.free from.1))

behind_ends : {bytes : List ℕ} {fields : ℕ} (p : PageParts) → SpellsRows bytes fields p [] → (h : ℕ) (low high : List ℕ) → p.inner ≡ low ++ h ∷ high → 2 ≤ h
behind_ends p s h low high inner =
    let whole = whole_list s in
    let zero = (each_right (λ k. k ≡ 0 → ⊥) low (h ∷ high) (subst (AllByRecursion (λ k. k ≡ 0 → ⊥)) inner whole.low)).0 in
    let one = (each_right (λ k. k ≡ 1 → ⊥) low (h ∷ high) (subst (AllByRecursion (λ k. k ≡ 1 → ⊥)) inner whole.high)).0 in
    omega (arith, zero, one)

-- rows of other records stay
rows_set : (p : PageParts) (h : ℕ) (value ks : List ℕ) → AllByRecursion (λ k. k ≡ h → ⊥) ks → map (row_of (set_parts p h value)) ks ≡ map (row_of p) ks
rows_set p h value [] apart = refl
rows_set p h value (k ∷ ks) apart =
    let r = with_tail (p.of h) value in
    ap₂ (λ (x : Row) (xs : List Row). x ∷ xs)
    (ap₂ (λ (c : Cell) (y : PlacedRecord). row_of_record (origin_in c) y) (changed-other p.mirror.cell h (cell_of r) k apart.0) (changed-other p.of h r k apart.0))
    (rows_set p h value ks apart.1)

-- how long the free list's head is
abbrev head_length : (ℕ → PlacedRecord) → List ℕ → ℕ
head_length of [] = 0
head_length of (k ∷ ks) = size_of_record (of k)

head_gap_is : {bytes : List ℕ} {fields : ℕ} {p : PageParts} → SpellsRows bytes fields p [] → head_gap bytes fields p.mirror.free ≡ head_length p.of p.free
head_gap_is {bytes} {fields} {p} s = go p.free refl
  where
    go : (free : List ℕ) → p.free ≡ free → head_gap bytes fields p.mirror.free ≡ head_length p.of free
    go [] e = no_gap s (s.free_from ∙ ap (free_origin p.mirror) e)
    go (k ∷ ks) e = (free_there k ks s e).gap

head_length_same : (f g : ℕ → PlacedRecord) → ((k : ℕ) → size_of_record (f k) ≡ size_of_record (g k)) → (ks : List ℕ) → head_length f ks ≡ head_length g ks
head_length_same f g same [] = refl
head_length_same f g same (k ∷ ks) = same k

same_gaps : (a b : Gaps) → a.head ≡ b.head → a.rest ≡ b.rest → a ≡ b
same_gaps a b e f = λ i. record { head = e i; rest = f i }

gaps_same : {b0 b1 : List ℕ} {fields : ℕ} {p : PageParts} (h : ℕ) (value : List ℕ) → SpellsRows b0 fields p [] → SpellsRows b1 fields (set_parts p h value) []
    → ((k : ℕ) → size_of_record ((set_parts p h value).of k) ≡ size_of_record (p.of k)) → gaps_in_bytes b1 fields ≡ gaps_in_bytes b0 fields
gaps_same {b0} {b1} {fields} {p} h value old new same =
    let before = gaps_are old in
    let after = gaps_are new in
    same_gaps (gaps_in_bytes b1 fields) (gaps_in_bytes b0 fields)
    (after.head ∙ head_gap_is new ∙ head_length_same (set_parts p h value).of p.of same p.free ∙ sym (head_gap_is old) ∙ sym before.head)
    (omega (arith, before.rest, after.rest))

-- the row's record, and what is known of it
pub record ValueThere (bytes : List ℕ) (fields : ℕ) (p : PageParts) (h : ℕ) (row : Row) (value : List ℕ) (place end : ℕ) : Type 0 where
  pub long : length value ≡ length (p.of h).tail
  pub body : body_of_kind (p.of h).kind value ≡ Bytes value
  pub behind : 2 ≤ h
  pub end_is : end ≡ end_in (p.mirror.cell h)
  pub from : end - length value ≡ origin_in (p.mirror.cell h) + length (concat (p.of h).key)
  pub fits : end ≤ 16376
  pub less : length value ≤ end

pub value_there : {bytes : List ℕ} {fields : ℕ} {left right : List Row} {row : Row} {place end : ℕ} {value : List ℕ} (c : CanSetValue bytes fields left row right place value)
    → end ≡ finish (record_at bytes place fields)
    → (let r = row_between c.row_there in ValueThere bytes fields c.row_there.page.parts r.b.here row value place end)
value_there {bytes} {fields} {left} {right} {row} {place} {end} {value} c end_is =
    let p = c.row_there.page.parts in
    let s = c.row_there.page.spells in
    let r = row_between c.row_there in
    let h = r.b.here in
    let of = p.of h in
    let carries : body_of_kind of.kind of.tail ≡ Bytes c.before = ap (λ (x : Row). x.body) r.row_is ∙ c.carries in
    let read = record_read bytes place fields of (record_in_page fields of r.here_at r.stands.cell r.stands.sound r.stands.count) in
    let long : length value ≡ length of.tail = c.long ∙ ap length (sym (value_is of.kind of.tail c.before carries)) in
    let last : end ≡ end_in (p.mirror.cell h) = end_is ∙ ap finish read ∙ sym (cell_end of) ∙ ap end_in (sym r.stands.cell) in
    let body : length (p.mirror.cell h).body ≡ length (concat of.key) + length of.tail = ap (λ (x : Cell). length x.body) r.stands.cell ∙ length-append (concat of.key) of.tail in
    let high = s.page.is.heap.high h r.here_at.within in
    let room = s.page.is.room in
    record {
      long = long;
      body = body_set of.kind of.tail c.before value carries;
      behind = behind_ends p s h (r.low) (r.high) r.inner;
      end_is = last;
      from = omega (arith, long, last, body);
      fits = omega (arith, last);
      less = omega (arith, long, last, body);
    }

-- the page with the value written
pub value_set : {b0 b1 : List ℕ} {fields : ℕ} {left right : List Row} {row : Row} {place end : ℕ} {value : List ℕ} (c : CanSetValue b0 fields left row right place value)
    → end ≡ finish (record_at b0 place fields) → SpellsAt b1 (end - length value) value → SameOutside b0 b1 (end - length value) (end - length value + length value)
    → SetsInBytes b0 b1 fields left row right value
value_set {b0} {b1} {fields} {left} {right} {row} {place} {end} {value} c end_is spells same =
    let p = c.row_there.page.parts in
    let old = c.row_there.page.spells in
    let m = p.mirror in
    let r = row_between c.row_there in
    let h = r.b.here in
    let of = p.of h in
    let t = value_there c end_is in
    let q = set_parts p h value in
    let cell = m.cell h in
    let key = concat of.key in
    let less = t.less in
    let was : SpellsAt b0 (origin_in cell) (key ++ of.tail) = subst (SpellsAt b0 (origin_in cell)) (ap (λ (x : Cell). x.body) r.stands.cell) (old.page.is.cells h r.here_at.within).stands.body in
    let front : SpellsAt b1 (origin_in cell) key = spells_kept same (origin_in cell) key (inl (omega (arith, t.from))) (spells_front b0 (origin_in cell) key of.tail was) in
    let whole : SpellsAt b1 (origin_in cell) (key ++ value) = spells-append b1 (origin_in cell) key value front (subst (λ (x : ℕ). SpellsAt b1 x value) t.from spells) in
    let size : length (key ++ value) ≡ length cell.body =
    length-append key value ∙ ap (λ (n : ℕ). length key + n) t.long ∙ sym (length-append key of.tail) ∙ ap (λ (x : Cell). length x.body) (sym r.stands.cell) in
    let written = body_written h (key ++ value) old.page.is r.here_at.within t.behind size same (omega (arith, t.from)) (omega (arith, t.end_is)) whole in
    let body_is : with_body cell (key ++ value) ≡ cell_of (with_tail of value) = ap (λ (x : Cell). with_body x (key ++ value)) r.stands.cell ∙ tail_is_body of value t.long in
    let is : Mirrors b1 q.mirror = subst (λ (x : Cell). Mirrors b1 (record m { cell = changed m.cell h x })) body_is written in
    let s = set_spells h value old r.stands t.long is in
    let low_is = rows_set p h value r.low (differ_from p old h r.low r.high r.inner).0 in
    let high_is = rows_set p h value r.high (differ_from p old h r.low r.high r.inner).1 in
    let here : row_of q h ≡ placed_row row.place row.key (Bytes value) =
    ap₂ (λ (x : ℕ) (y : PlacedRecord). row_of_record x y) (origin_set p h value r.stands.cell t.long h) (changed-same p.of h (with_tail of value))
    ∙ ap (λ (x : RowBody). placed_row (origin_of m h) of.key x) t.body ∙ ap (λ (x : Row). placed_row x.place x.key (Bytes value)) r.row_is in
    record {
      page = record { parts = q; spells = s };
      rows = rows_are s ∙ ap (map (row_of q)) r.inner ∙ map-append (row_of q) r.low (h ∷ r.high)
          ∙ ap₂ (λ (xs ys : List Row). xs ++ ys) (low_is ∙ r.left_is) (ap₂ (λ (x : Row) (xs : List Row). x ∷ xs) here (high_is ∙ r.right_is));
      gaps = gaps_same h value old s (size_set p h value t.long);
      slots = sizes_told s.page ∙ sym (sizes_told old.page);
      low = λ k w. s.page.is.fixed.front k w ∙ sym (old.page.is.fixed.front k w);
      high = λ k v w. s.page.is.fixed.back k v w ∙ sym (old.page.is.fixed.back k v w);
    }
