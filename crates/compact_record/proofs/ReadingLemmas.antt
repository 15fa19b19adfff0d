-- Where the parts of a record that stands are.
use Rattle.std.proofs.Common.{◌≡◌, ◌≢◌, ℕ, ◌+◌, ◌-◌, ◌<◌, ◌≤◌, List, [], ◌∷◌, ◌++◌, length, take, drop, get_or, All, refl, sym, ap, subst, ◌∙◌, arith, length-append, ◌⊎◌, inl, inr}
use Rattle.std.specs.List.{concat, slice_range}
use Rattle.std.proofs.lemmas.List.{append_assoc, take_more, drop_more, take-append-drop, take_all, drop_all, get_or_append_left, same_lists, get_or_default}
use Rattle.std.proofs.Math.Seq.{get_or-append_seam, drop-append_seam}
use Rattle.std.proofs.lemmas.Bool.{cases_lt}
use Rattle.std.proofs.lemmas.List.Edits.{length-between, get_or-between}
use Rattle.std.proofs.lemmas.List.Sums.{sum_by-append, sum_by-take-le}
use Rattle.std.proofs.lemmas.List.Folds.{concat-append}
use Rattle.std.proofs.lemmas.List.Elements.{All-append, All-cons, All-nil}
use Rattle.key_tuple.specs.Order.{FieldList, byte_count}
use Rattle.compact_record.specs.declared.TheConstants.{LENGTH_LIMIT, HEAD_BYTES, CHILD_BYTES}
use Rattle.compact_record.specs.declared.kind.RecordKind.{RecordKind}
use Rattle.compact_record.specs.declared.kind.RecordKind.TheVariants.{Row, Pointer, LeftmostPointer}
use Rattle.compact_record.specs.declared.reading.Part.{Part}
use Rattle.compact_record.specs.Bytes.{SpellsAt}
use Rattle.compact_record.specs.Kind.{status_bits, measured}
use Rattle.compact_record.specs.Record.{PlacedRecord, IsRecord, origin, finish, parts_of, measured_parts, length_bytes, lengths_bytes}
use Rattle.compact_record.specs.Lengths.{EndsLength}
use Rattle.compact_record.specs.Reading.{record_at, kind_in, IsRecordAt, IsPart}
use Rattle.compact_record.proofs.BytesLemmas.{spells_front, spells_end}
use Rattle.compact_record.proofs.PartLemmas.{lengths_from, lengths_from_le, length_there, length-concat}

-- bytes that are spelled, cut out
pub spells_range : (bytes : List ℕ) (at : ℕ) (part : List ℕ) → SpellsAt bytes at part → at + length part ≤ length bytes → slice_range bytes at (at + length part) ≡ part
spells_range bytes at part s fits =
    let size : length (slice_range bytes at (at + length part)) ≡ length part = length-between bytes at (at + length part) fits ∙ omega arith in
    same_lists _ _ size
    (λ k d h. get_or-between bytes at (at + length part) k d (omega arith) ∙ get_or_default bytes (at + k) d 0 (omega arith) ∙ s.each k (omega arith) ∙ get_or_default part k 0 d (omega arith))

-- the key's fields are among the parts that have a length
pub count_measured : (kind : RecordKind) (key : FieldList) (tail : List ℕ) → length key ≤ length (measured kind key tail)
count_measured Row key tail = omega (arith, length-append key (tail ∷ []))
count_measured Pointer key tail = omega arith
count_measured LeftmostPointer key tail = omega arith

-- a part that has a length is that part
pub measured_is : (kind : RecordKind) (key : FieldList) (tail : List ℕ) (i : ℕ) → i < length (measured kind key tail)
    → get_or (measured kind key tail) i [] ≡ get_or (key ++ tail ∷ []) i []
measured_is Row key tail i h = refl
measured_is Pointer key tail i h = sym (get_or_append_left key (tail ∷ []) [] i h)
measured_is LeftmostPointer key tail i h = sym (get_or_append_left key (tail ∷ []) [] i h)

-- the parts that have a length are within the limit
pub measured_small : (kind : RecordKind) (key : FieldList) (tail : List ℕ) → All (λ part. length part < LENGTH_LIMIT) key → length tail < LENGTH_LIMIT
    → All (λ part. length part < LENGTH_LIMIT) (measured kind key tail)
measured_small Row key tail small short = All-append (λ part. length part < LENGTH_LIMIT) key (tail ∷ []) small (All-cons (λ part. length part < LENGTH_LIMIT) tail [] short (All-nil (λ part. length part < LENGTH_LIMIT)))
measured_small Pointer key tail small short = small
measured_small LeftmostPointer key tail small short = small

-- the length of a part ends at the top that is told of it
pub length_of_part : {bytes : List ℕ} {place fields : ℕ} {r : PlacedRecord} (number : ℕ) (part : Part) → IsRecordAt bytes place fields r → IsPart r number part
    → number < length (measured_parts r) → EndsLength bytes (length (get_or (parts_of r) number [])) part.top
length_of_part {bytes} {r = r} number part s p h =
    let there = length_there bytes r.start number (measured_parts r) h (measured_small r.kind r.key r.tail s.sound.key s.sound.tail) s.stands.lengths in
    rw (p.top, ← measured_is r.kind r.key r.tail number h) there

-- and is within the record
pub top_of_part : {bytes : List ℕ} {place fields : ℕ} {r : PlacedRecord} (number : ℕ) (part : Part) → IsRecordAt bytes place fields r → IsPart r number part
    → (r.start ≤ part.top) × (part.top + HEAD_BYTES ≤ place) × (place ≤ length bytes)
top_of_part {r = r} number part s p =
    let top = p.top in
    let here = s.here in
    let fits = s.stands.fits in
    let low = lengths_from_le (measured_parts r) number in
    (omega arith, omega arith, omega arith)

-- the first field begins where the head ends
pub first_part : {bytes : List ℕ} {place fields : ℕ} {r : PlacedRecord} → IsRecordAt bytes place fields r → (part : Part) → part.top ≡ place - HEAD_BYTES → part.from ≡ place → IsPart r 0 part
first_part s part top from =
    let here = s.here in
    record { top = omega arith; from = omega arith }

-- the next part
pub next_part : {r : PlacedRecord} (number len : ℕ) (part next : Part) → IsPart r number part → number < length r.key → len ≡ length (get_or (parts_of r) number [])
    → next.top ≡ part.top - length (length_bytes len) → next.from ≡ part.from + len → IsPart r (number + 1) next
next_part {r} number len part next p h is top from =
    let low : number < length (measured_parts r) = omega (arith, count_measured r.kind r.key r.tail) in
    let same : get_or (measured_parts r) number [] ≡ get_or (parts_of r) number [] = measured_is r.kind r.key r.tail number low in
    let here : len ≡ length (get_or r.key number []) = is ∙ ap length (get_or_append_left r.key (r.tail ∷ []) [] number h) in
    let size : length (lengths_bytes (drop number (measured_parts r))) ≡ length (lengths_bytes (drop (number + 1) (measured_parts r))) + length (length_bytes len) =
    ap length (lengths_from (measured_parts r) number low) ∙ length-append (lengths_bytes (drop (number + 1) (measured_parts r))) (length_bytes (length (get_or (measured_parts r) number [])))
    ∙ ap (λ (n : ℕ). length (lengths_bytes (drop (number + 1) (measured_parts r))) + length (length_bytes n)) (ap length same ∙ sym is) in
    let grown : byte_count (take (number + 1) r.key) ≡ byte_count (take number r.key) + byte_count (get_or r.key number [] ∷ []) =
    ap byte_count (take_more r.key number [] h) ∙ sum_by-append length (take number r.key) (get_or r.key number [] ∷ []) in
    let one : byte_count (get_or r.key number [] ∷ []) ≡ len = omega arith in
    let below = p.top in
    let before = p.from in
    record { top = omega arith; from = omega arith }

-- the bytes of a field stand after those of the fields before it
pub field_there : (bytes : List ℕ) (at : ℕ) (key : FieldList) (tail : List ℕ) (i : ℕ) → i < length key → SpellsAt bytes at (concat key ++ tail)
    → SpellsAt bytes (at + byte_count (take i key)) (get_or key i [])
field_there bytes at key tail i h s =
    let field = get_or key i [] in
    let rest = concat (drop (i + 1) key) ++ tail in
    let cut : concat key ≡ concat (take i key) ++ (field ++ concat (drop (i + 1) key)) =
    ap concat (sym (take-append-drop i key)) ∙ concat-append (take i key) (drop i key) ∙ ap (λ (xs : FieldList). concat (take i key) ++ concat xs) (drop_more key i [] h) in
    let whole : concat key ++ tail ≡ concat (take i key) ++ (field ++ rest) =
    ap (λ (xs : List ℕ). xs ++ tail) cut ∙ append_assoc (concat (take i key)) (field ++ concat (drop (i + 1) key)) tail ∙ ap (λ (xs : List ℕ). concat (take i key) ++ xs) (append_assoc field (concat (drop (i + 1) key)) tail) in
    let here = spells_front bytes (at + length (concat (take i key))) field rest (spells_end bytes at (concat (take i key)) (field ++ rest) (rw whole at s)) in
    rw (← length-concat (take i key)) here

-- the tail stands after all fields
pub tail_there : (bytes : List ℕ) (at : ℕ) (key : FieldList) (tail : List ℕ) → SpellsAt bytes at (concat key ++ tail) → SpellsAt bytes (at + byte_count key) tail
tail_there bytes at key tail s = rw (← length-concat key) (spells_end bytes at (concat key) tail s)

-- the part behind all fields is the tail
pub tail_of : (r : PlacedRecord) → get_or (parts_of r) (length r.key) [] ≡ r.tail
tail_of r = get_or-append_seam r.key r.tail [] []

-- what holds of a part: its bytes stand where it is told, and end within the record
pub record PartThere (bytes : List ℕ) (r : PlacedRecord) (number : ℕ) (part : Part) : Type 0 where
  pub spells : SpellsAt bytes part.from (get_or (parts_of r) number [])
  pub within : part.from + length (get_or (parts_of r) number []) ≤ length bytes

field_is : {bytes : List ℕ} {place fields : ℕ} {r : PlacedRecord} (number : ℕ) (part : Part) → IsRecordAt bytes place fields r → IsPart r number part
    → number < length r.key → PartThere bytes r number part
field_is {bytes} {r = r} number part s p h =
    let is : get_or (parts_of r) number [] ≡ get_or r.key number [] = get_or_append_left r.key (r.tail ∷ []) [] number h in
    let from = p.from in
    let fits = s.stands.fits in
    let grown : byte_count (take (number + 1) r.key) ≡ byte_count (take number r.key) + byte_count (get_or r.key number [] ∷ []) =
    ap byte_count (take_more r.key number [] h) ∙ sum_by-append length (take number r.key) (get_or r.key number [] ∷ []) in
    let most : byte_count (take (number + 1) r.key) ≤ byte_count r.key = sum_by-take-le length r.key (number + 1) in
    record {
      spells = rw (is, from) (field_there bytes (origin r) r.key r.tail number h s.stands.body);
      within = rw is (omega arith);
    }

tail_is : {bytes : List ℕ} {place fields : ℕ} {r : PlacedRecord} (number : ℕ) (part : Part) → IsRecordAt bytes place fields r → IsPart r number part
    → number ≡ length r.key → PartThere bytes r number part
tail_is {bytes} {r = r} number part s p e =
    let is : get_or (parts_of r) number [] ≡ r.tail = rw e (tail_of r) in
    let all : byte_count (take number r.key) ≡ byte_count r.key = rw e (ap byte_count (take_all (length r.key) r.key (omega arith))) in
    let from : part.from ≡ origin r + byte_count r.key = p.from ∙ ap (λ (n : ℕ). origin r + n) all in
    let fits = s.stands.fits in
    record {
      spells = rw (is, from) (tail_there bytes (origin r) r.key r.tail s.stands.body);
      within = rw is (omega arith);
    }

-- the bytes of a part are where it is told
pub part_there : {bytes : List ℕ} {place fields : ℕ} {r : PlacedRecord} (number : ℕ) (part : Part) → IsRecordAt bytes place fields r → IsPart r number part
    → number ≤ fields → PartThere bytes r number part
part_there {bytes} {r = r} number part s p h =
    let count = s.count in
    elim (cases_lt number (length r.key)) [
      | inl low ↦ field_is number part s p low
      | inr high ↦ tail_is number part s p (omega arith)
    ]

-- a kind that isn't a row's has status 1
pub pointer_status : (kind : RecordKind) → kind ≢ Row → status_bits kind ≡ 1
pointer_status Row isnt = absurd (isnt refl)
pointer_status Pointer isnt = refl
pointer_status LeftmostPointer isnt = refl

-- behind all fields, a pointer has no part that has a length
pointer_parts : (kind : RecordKind) (key : FieldList) (tail : List ℕ) (fields : ℕ) → kind ≢ Row → length key ≤ fields → drop fields (measured kind key tail) ≡ []
pointer_parts Row key tail fields isnt h = absurd (isnt refl)
pointer_parts Pointer key tail fields isnt h = drop_all fields key h
pointer_parts LeftmostPointer key tail fields isnt h = drop_all fields key h

-- behind all fields, a row's tail has its length
pub tail_measured : {bytes : List ℕ} {place fields : ℕ} {r : PlacedRecord} → IsRecordAt bytes place fields r → r.kind ≡ Row → fields < length (measured_parts r)
tail_measured {fields = fields} {r = r} s is =
    let count = s.count in
    let all : length (measured r.kind r.key r.tail) ≡ length r.key + 1 = ap (λ (k : RecordKind). length (measured k r.key r.tail)) is ∙ length-append r.key (r.tail ∷ []) in
    omega arith

-- the tail's figures
pub tail_at_end : {bytes : List ℕ} {place fields : ℕ} {r : PlacedRecord} (part : Part) → IsRecordAt bytes place fields r → IsPart r fields part
    → (part.from ≡ origin r + byte_count r.key) × (get_or (parts_of r) fields [] ≡ r.tail)
tail_at_end {fields = fields} {r = r} part s p =
    let count = s.count in
    let all : byte_count (take fields r.key) ≡ byte_count r.key = ap byte_count (take_all fields r.key (omega arith)) in
    (p.from ∙ ap (λ (n : ℕ). origin r + n) all, ap (λ (n : ℕ). get_or (parts_of r) n []) (sym count) ∙ tail_of r)

-- a row begins where its tail's length does
pub row_start : {bytes : List ℕ} {place fields : ℕ} {r : PlacedRecord} (part : Part) → IsRecordAt bytes place fields r → IsPart r fields part → r.kind ≡ Row
    → part.top ≡ r.start + length (length_bytes (length r.tail))
row_start {fields = fields} {r = r} part s p is =
    let count = s.count in
    let parts : drop fields (measured_parts r) ≡ r.tail ∷ [] =
    ap (λ (k : RecordKind). drop fields (measured k r.key r.tail)) is ∙ ap (λ (n : ℕ). drop n (r.key ++ r.tail ∷ [])) (sym count) ∙ drop-append_seam r.key (r.tail ∷ []) in
    p.top ∙ ap (λ (xs : FieldList). r.start + length (lengths_bytes xs)) parts

-- a pointer begins where its last field's length does, and its tail has four bytes
pub pointer_start : {bytes : List ℕ} {place fields : ℕ} {r : PlacedRecord} (part : Part) → IsRecordAt bytes place fields r → IsPart r fields part → r.kind ≢ Row
    → (part.top ≡ r.start) × (length r.tail ≡ CHILD_BYTES)
pointer_start {fields = fields} {r = r} part s p isnt =
    let count = s.count in
    let none : drop fields (measured_parts r) ≡ [] = pointer_parts r.kind r.key r.tail fields isnt (omega arith) in
    (p.top ∙ ap (λ (xs : FieldList). r.start + length (lengths_bytes xs)) none ∙ omega arith, s.sound.child (pointer_status r.kind isnt))

-- the kind that is read is the record's
pub kind_is : (bytes : List ℕ) (place fields : ℕ) → (record_at bytes place fields).kind ≡ kind_in bytes place
unfolding record_at
kind_is bytes place fields = refl

-- a pointer's kind isn't a row's
pub not_row : {kind told : RecordKind} → kind ≡ told → (told ≡ Pointer) ⊎ (told ≡ LeftmostPointer) → kind ≢ Row
not_row is which = λ row. elim which [ inl p ↦ cc | inr p ↦ cc ]

-- where a row's tail and its length stand
pub record RowEnd (bytes : List ℕ) (r : PlacedRecord) (part : Part) : Type 0 where
  pub there : EndsLength bytes (length r.tail) part.top
  pub start : r.start + length (length_bytes (length r.tail)) ≡ part.top
  pub end : part.from + length r.tail ≡ finish r
  pub fits : finish r ≤ length bytes
  pub top : part.top ≤ length bytes

pub row_end : {bytes : List ℕ} {place fields : ℕ} {r : PlacedRecord} (part : Part) → IsRecordAt bytes place fields r → IsPart r fields part → r.kind ≡ Row → RowEnd bytes r part
row_end {bytes} {fields = fields} {r = r} part s p is =
    let from = tail_at_end part s p in
    let low = top_of_part fields part s p in
    let there = length_of_part fields part s p (tail_measured s is) in
    record {
      there = subst (λ (x : List ℕ). EndsLength bytes (length x) part.top) from.1 there;
      start = sym (row_start part s p is);
      end = omega arith;
      fits = s.stands.fits;
      top = omega arith;
    }

-- where a pointer's tail stands
pub record PointerEnd (bytes : List ℕ) (r : PlacedRecord) (part : Part) : Type 0 where
  pub start : part.top ≡ r.start
  pub end : part.from + CHILD_BYTES ≡ finish r
  pub fits : finish r ≤ length bytes
  pub tail : slice_range bytes part.from (part.from + CHILD_BYTES) ≡ r.tail
  pub size : length r.tail ≡ CHILD_BYTES

pub pointer_end : {bytes : List ℕ} {place fields : ℕ} {r : PlacedRecord} (part : Part) → IsRecordAt bytes place fields r → IsPart r fields part → r.kind ≢ Row → PointerEnd bytes r part
pointer_end {bytes} {fields = fields} {r = r} part s p isnt =
    let from = tail_at_end part s p in
    let begins = pointer_start part s p isnt in
    let fits = s.stands.fits in
    let there : SpellsAt bytes part.from r.tail = rw from.0 (tail_there bytes (origin r) r.key r.tail s.stands.body) in
    record {
      start = begins.0;
      end = omega arith;
      fits = fits;
      tail = rw (← begins.1) (spells_range bytes part.from r.tail there (omega arith));
      size = begins.1;
    }

-- a field of the key is among the parts that have a length, and within the limit
pub key_measured : {r s : PlacedRecord} (i : ℕ) → r ≡ s → i < length s.key → i < length (measured_parts r)
key_measured {r} i is low =
    let size = ap (λ (x : PlacedRecord). length x.key) is in
    omega (arith, count_measured r.kind r.key r.tail)

pub key_field_is : {r s : PlacedRecord} (i : ℕ) → r ≡ s → i < length s.key → get_or (parts_of r) i [] ≡ get_or s.key i []
key_field_is {r} i is low =
    let size = ap (λ (x : PlacedRecord). length x.key) is in
    get_or_append_left r.key (r.tail ∷ []) [] i (omega arith) ∙ ap (λ (x : PlacedRecord). get_or x.key i []) is

pub field_small : {r s : PlacedRecord} (i : ℕ) (bytes : List ℕ) → r ≡ s → IsRecord r → i < length s.key → bytes ≡ get_or (parts_of r) i [] → length bytes < 65536
field_small {r} i bytes is sound low bytes_is =
    let size = ap (λ (x : PlacedRecord). length x.key) is in
    let within : i < length r.key = omega arith in
    let small = sound.key i [] within in
    let same = ap length (bytes_is ∙ get_or_append_left r.key (r.tail ∷ []) [] i within) in
    omega arith
