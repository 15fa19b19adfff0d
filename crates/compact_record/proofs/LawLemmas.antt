-- What stands is what is read, and stays where nothing is written.
use Rattle.std.proofs.Common.{◌≡◌, ℕ, ◌+◌, ◌-◌, ◌*◌, ◌/◌, ◌%◌, ◌<◌, ◌≤◌, ◌⊎◌, Bool, cond, List, [], ◌∷◌, ◌++◌, length, sum_by, All, slice_index, slice_range, refl, sym, ap, ap₂, subst, ◌∙◌, arith, add-zero, length-append, inl, inr}
use Rattle.std.specs.List.{concat}
use Rattle.std.proofs.lemmas.List.{append_assoc, append-nil}
use Rattle.std.proofs.lemmas.List.Sums.{sum_by-cons}
use Rattle.std.proofs.lemmas.List.Elements.{All-head, All-tail}
use Rattle.std.proofs.lemmas.Bool.{cases_lt, lt-ltb, le-ltb}
use Rattle.std.proofs.lemmas.Bool.Decides.{nat_tests}
use Rattle.key_tuple.specs.Order.{FieldList, byte_count}
use Rattle.key_tuple.specs.Sizes.{length_size, field_size}
use Rattle.compact_record.specs.declared.TheConstants.{LENGTH_LIMIT, HEAD_BYTES, CHILD_BYTES}
use Rattle.compact_record.specs.declared.kind.RecordKind.{RecordKind}
use Rattle.compact_record.specs.declared.kind.RecordKind.TheVariants.{Row, Pointer, LeftmostPointer}
use Rattle.compact_record.specs.Bytes.{u16_at, SpellsAt, SameOutside}
use Rattle.compact_record.specs.Kind.{status_bits, info_bits, kind_with, measured}
use Rattle.compact_record.specs.Record.{PlacedRecord, IsRecord, Stands, origin, finish, record_size_of, measured_parts, length_bytes, lengths_bytes}
use Rattle.compact_record.specs.Lengths.{EndsLength}
use Rattle.compact_record.specs.Reading.{length_at, fields_at, tail_length, kind_in, record_at, IsRecordAt, HasRecord}
use Rattle.compact_record.proofs.BytesLemmas.{spells_kept, spells_front, spells_end, u16_kept}
use Rattle.compact_record.proofs.PartLemmas.{lengths-append, length-concat}
use Rattle.compact_record.proofs.ReadingLemmas.{spells_range, tail_there}

-- a record outside the write stays
pub record_stays : (old new : List ℕ) (from to : ℕ) (r : PlacedRecord) → SameOutside old new from to → (finish r ≤ from) ⊎ (to ≤ r.start) → Stands old r → Stands new r
record_stays old new from to r same apart s =
    let fits = s.fits in
    let size : length (concat r.key ++ r.tail) ≡ byte_count r.key + length r.tail = length-append (concat r.key) r.tail ∙ ap (λ (n : ℕ). n + length r.tail) (length-concat r.key) in
    elim apart [
      | inl low ↦ record {
        fits = rw same.len fits;
        lengths = spells_kept same r.start (lengths_bytes (measured_parts r)) (inl (omega arith)) s.lengths;
        info = rw (same.below (origin r - HEAD_BYTES) (omega arith)) s.info;
        number = u16_kept same (origin r - 4) (inl (omega arith)) ∙ s.number;
        body = spells_kept same (origin r) (concat r.key ++ r.tail) (inl (omega arith)) s.body;
      }
      | inr high ↦ record {
        fits = rw same.len fits;
        lengths = spells_kept same r.start (lengths_bytes (measured_parts r)) (inr high) s.lengths;
        info = rw (same.above (origin r - HEAD_BYTES) (omega arith)) s.info;
        number = u16_kept same (origin r - 4) (inr (omega arith)) ∙ s.number;
        body = spells_kept same (origin r) (concat r.key ++ r.tail) (inr (omega arith)) s.body;
      }
    ]

-- a length takes as many bytes as its size says
pub length-length_bytes : (n : ℕ) → length (length_bytes n) ≡ length_size n
length-length_bytes n = elim (cases_lt 127 n) [
  | inl long ↦
      let e : length_bytes n ≡ n % 256 ∷ (128 + n / 256) ∷ [] = grind (arith, nat_tests) in
      let f : length_size n ≡ 2 = grind (arith, nat_tests) in
      rw (e, f) refl
  | inr short ↦
      let e : length_bytes n ≡ n ∷ [] = grind (arith, nat_tests) in
      let f : length_size n ≡ 1 = grind (arith, nat_tests) in
      rw (e, f) refl
]

lengths_size : (parts : FieldList) → length (lengths_bytes parts) + byte_count parts ≡ sum_by field_size parts
lengths_size [] = refl
lengths_size (x ∷ xs) = omega (arith, lengths_size xs, length-append (lengths_bytes xs) (length_bytes (length x)), length-length_bytes (length x), sum_by-cons length x xs, sum_by-cons field_size x xs)

size_by : (kind : RecordKind) (key : FieldList) (tail : List ℕ) → (status_bits kind ≡ 1 → length tail ≡ CHILD_BYTES)
    → length (lengths_bytes (measured kind key tail)) + HEAD_BYTES + byte_count key + length tail ≡ record_size_of kind key tail
size_by Row key tail child = omega (arith, lengths_size key, length-length_bytes (length tail), ap length (lengths-append key (tail ∷ [])), length-append (length_bytes (length tail)) (lengths_bytes key))
size_by Pointer key tail child = omega (arith, lengths_size key, child refl)
size_by LeftmostPointer key tail child = omega (arith, lengths_size key, child refl)

-- a record takes the bytes that its key and its tail ask for
pub record_size : (r : PlacedRecord) → IsRecord r → finish r ≡ r.start + record_size_of r.kind r.key r.tail
record_size r s = omega (arith, size_by r.kind r.key r.tail s.child)

-- a length reads back
pub length_read : (bytes : List ℕ) (n at : ℕ) → n < LENGTH_LIMIT → SpellsAt bytes at (length_bytes n) → length_at bytes (at + length (length_bytes n)) ≡ n
length_read bytes n at small s = elim (cases_lt 127 n) [
  | inl long ↦
      let e : length_bytes n ≡ n % 256 ∷ (128 + n / 256) ∷ [] = grind (arith, nat_tests) in
      let t = rw e at s in
      let first : slice_index bytes at ≡ n % 256 = ap (slice_index bytes) (sym (add-zero at)) ∙ t.each 0 (omega arith) in
      let second : slice_index bytes (at + 1) ≡ 128 + n / 256 = t.each 1 (omega arith) in
      let one : at + 2 - 1 ≡ at + 1 = omega arith in
      let two : at + 2 - 2 ≡ at = omega arith in
      rw e (rw (one, two, second, first) (grind (arith, nat_tests)))
  | inr short ↦
      let e : length_bytes n ≡ n ∷ [] = grind (arith, nat_tests) in
      let t = rw e at s in
      let first : slice_index bytes at ≡ n = ap (slice_index bytes) (sym (add-zero at)) ∙ t.each 0 (omega arith) in
      let one : at + 1 - 1 ≡ at = omega arith in
      rw e (rw (one, first) (grind (arith, nat_tests)))
]

-- the fields of a key read back
fields_read : (bytes : List ℕ) (start from top : ℕ) (fields more : FieldList) (rest : List ℕ) → All (λ field. length field < LENGTH_LIMIT) fields
    → SpellsAt bytes start (lengths_bytes (fields ++ more)) → SpellsAt bytes from (concat fields ++ rest) → from + byte_count fields ≤ length bytes
    → top ≡ start + length (lengths_bytes (fields ++ more)) → fields_at bytes top from (length fields) ≡ fields
unfolding fields_at
fields_read bytes start from top [] more rest small lengths body fits e = refl
fields_read bytes start from top (x ∷ xs) more rest small lengths body fits e =
    let low = start + length (lengths_bytes (xs ++ more)) in
    let own = length_bytes (length x) in
    let whole : top ≡ low + length own = omega (arith, length-append (lengths_bytes (xs ++ more)) own) in
    let size : length_at bytes top ≡ length x =
    rw whole (length_read bytes (length x) low (All-head (λ field. length field < LENGTH_LIMIT) x xs small) (spells_end bytes start (lengths_bytes (xs ++ more)) own lengths)) in
    let split : concat (x ∷ xs) ++ rest ≡ x ++ (concat xs ++ rest) = append_assoc x (concat xs) rest in
    let whole_body = rw split at body in
    let here : slice_range bytes from (from + length x) ≡ x = spells_range bytes from x (spells_front bytes from x (concat xs ++ rest) whole_body) (omega (arith, sum_by-cons length x xs)) in
    let below : top - length_size (length x) ≡ low = omega (arith, length-length_bytes (length x)) in
    let later : fields_at bytes (top - length_size (length x)) (from + length x) (length xs) ≡ xs =
    fields_read bytes start (from + length x) (top - length_size (length x)) xs more rest (All-tail (λ field. length field < LENGTH_LIMIT) x xs small)
    (spells_front bytes start (lengths_bytes (xs ++ more)) own lengths) (spells_end bytes from x (concat xs ++ rest) whole_body) (omega (arith, sum_by-cons length x xs)) below in
    rw (size, here, later) refl

kind_told : (kind : RecordKind) → kind_with (status_bits kind) (info_bits kind) ≡ kind
kind_told Row = refl
kind_told Pointer = refl
kind_told LeftmostPointer = refl

status_le : (kind : RecordKind) → status_bits kind ≤ 1
status_le Row = omega arith
status_le Pointer = omega arith
status_le LeftmostPointer = omega arith

kind_read : (bytes : List ℕ) (place fields : ℕ) (r : PlacedRecord) → IsRecordAt bytes place fields r → kind_in bytes place ≡ r.kind
kind_read bytes place fields r s =
    let here = s.here in
    let number : u16_at bytes (place - 4) ≡ r.heap_number * 8 + status_bits r.kind = rw (← here) s.stands.number in
    let info : slice_index bytes (place - HEAD_BYTES) / 16 ≡ info_bits r.kind = rw (← here) s.stands.info in
    let status : u16_at bytes (place - 4) % 8 ≡ status_bits r.kind = omega (arith, number, status_le r.kind) in
    ap₂ kind_with status info ∙ kind_told r.kind

-- the parts that have a length are the key's fields and what a key of none would have
measured_is_key : (kind : RecordKind) (key : FieldList) (tail : List ℕ) → measured kind key tail ≡ key ++ measured kind [] tail
measured_is_key Row key tail = refl
measured_is_key Pointer key tail = sym (append-nil key)
measured_is_key LeftmostPointer key tail = sym (append-nil key)

tail_length_is : (kind : RecordKind) (bytes : List ℕ) (start top : ℕ) (tail : List ℕ) → length tail < LENGTH_LIMIT → SpellsAt bytes start (lengths_bytes (measured kind [] tail))
    → top ≡ start + length (lengths_bytes (measured kind [] tail)) → (status_bits kind ≡ 1 → length tail ≡ CHILD_BYTES) → tail_length kind bytes top ≡ length tail
tail_length_is Row bytes start top tail small s e child = rw e (length_read bytes (length tail) start small s)
tail_length_is Pointer bytes start top tail small s e child = sym (child refl)
tail_length_is LeftmostPointer bytes start top tail small s e child = sym (child refl)

same_record : (r : PlacedRecord) (start number : ℕ) → start ≡ r.start → number ≡ r.heap_number
    → (let x : PlacedRecord = record { start = start; kind = r.kind; heap_number = number; key = r.key; tail = r.tail } in x) ≡ r
same_record r start number e f = λ i. record { start = e i; kind = r.kind; heap_number = f i; key = r.key; tail = r.tail }

-- a record that stands at a place is the one that is read there
pub record_read : (bytes : List ℕ) (place fields : ℕ) (r : PlacedRecord) → IsRecordAt bytes place fields r → record_at bytes place fields ≡ r
unfolding record_at
record_read bytes place fields r s =
    let here = s.here in
    let count = s.count in
    let fits = s.stands.fits in
    let all : lengths_bytes (measured_parts r) ≡ lengths_bytes (r.key ++ measured r.kind [] r.tail) = ap lengths_bytes (measured_is_key r.kind r.key r.tail) in
    let split : lengths_bytes (r.key ++ measured r.kind [] r.tail) ≡ lengths_bytes (measured r.kind [] r.tail) ++ lengths_bytes r.key = lengths-append r.key (measured r.kind [] r.tail) in
    let lengths : SpellsAt bytes r.start (lengths_bytes (r.key ++ measured r.kind [] r.tail)) = rw (← all) s.stands.lengths in
    let body : SpellsAt bytes place (concat r.key ++ r.tail) = rw (← here) s.stands.body in
    let size = ap length all in
    let sizes : length (lengths_bytes (r.key ++ measured r.kind [] r.tail)) ≡ length (lengths_bytes (measured r.kind [] r.tail)) + length (lengths_bytes r.key) =
    ap length split ∙ length-append (lengths_bytes (measured r.kind [] r.tail)) (lengths_bytes r.key) in
    let key : fields_at bytes (place - HEAD_BYTES) place fields ≡ r.key =
    rw (← count) (fields_read bytes r.start place (place - HEAD_BYTES) r.key (measured r.kind [] r.tail) r.tail s.sound.key lengths body (omega arith) (omega arith)) in
    let low : SpellsAt bytes r.start (lengths_bytes (measured r.kind [] r.tail)) = spells_front bytes r.start (lengths_bytes (measured r.kind [] r.tail)) (lengths_bytes r.key) (rw split at lengths) in
    let tail_size : tail_length r.kind bytes (place - HEAD_BYTES - length (lengths_bytes r.key)) ≡ length r.tail =
    tail_length_is r.kind bytes r.start (place - HEAD_BYTES - length (lengths_bytes r.key)) r.tail s.sound.tail low (omega arith) s.sound.child in
    let tail : slice_range bytes (place + byte_count r.key) (place + byte_count r.key + length r.tail) ≡ r.tail =
    spells_range bytes (place + byte_count r.key) r.tail (tail_there bytes place r.key r.tail body) (omega arith) in
    let number : u16_at bytes (place - 4) ≡ r.heap_number * 8 + status_bits r.kind = rw (← here) s.stands.number in
    let start_is : place - HEAD_BYTES - length (lengths_bytes (measured r.kind r.key r.tail)) ≡ r.start = omega arith in
    let number_is : u16_at bytes (place - 4) / 8 ≡ r.heap_number = omega (arith, number, status_le r.kind) in
    rw (kind_read bytes place fields r s, key, tail_size, tail) (same_record r _ _ start_is number_is)

pub record_there : (bytes : List ℕ) (place fields : ℕ) (r : PlacedRecord) → IsRecordAt bytes place fields r → HasRecord bytes place fields
record_there bytes place fields r s = subst (λ (x : PlacedRecord). IsRecordAt bytes place fields x) (sym (record_read bytes place fields r s)) s

-- so does the length that ends at a place
pub ends_read : {bytes : List ℕ} {n top : ℕ} → EndsLength bytes n top → length_at bytes top ≡ n
ends_read {bytes} {n} {top} e =
    let room = e.room in
    let up : top - length (length_bytes n) + length (length_bytes n) ≡ top = omega arith in
    ap (length_at bytes) (sym up) ∙ length_read bytes n (top - length (length_bytes n)) e.small e.spells

-- it is told by two bytes where the last is above 127, and else by that one
pub long_told : (bytes : List ℕ) (top last low : ℕ) → last ≡ slice_index bytes (top - 1) → low ≡ slice_index bytes (top - 2) → 127 < last
    → (last - 128) * 256 + low ≡ length_at bytes top
long_told bytes top last low last_is low_is long =
    let end = slice_index bytes (top - 1) in
    rw (last_is, low_is) (sym (ap (λ (b : Bool). cond b ((end - 128) * 256 + slice_index bytes (top - 2)) end) (lt-ltb 127 end (rw last_is at long))))

pub short_told : (bytes : List ℕ) (top last : ℕ) → last ≡ slice_index bytes (top - 1) → last ≤ 127 → last ≡ length_at bytes top
short_told bytes top last last_is short =
    let end = slice_index bytes (top - 1) in
    rw last_is (sym (ap (λ (b : Bool). cond b ((end - 128) * 256 + slice_index bytes (top - 2)) end) (le-ltb 127 end (rw last_is at short))))
