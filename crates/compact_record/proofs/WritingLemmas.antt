-- How what is written part by part makes a record.
use Rattle.std.proofs.Common.{◌≡◌, ℕ, ◌+◌, ◌-◌, ◌*◌, ◌/◌, ◌%◌, ◌<◌, ◌≤◌, List, [], ◌∷◌, ◌++◌, length, take, drop, set, get_or, slice_index, refl, sym, ap, subst, ◌∙◌, arith, length-append, inl}
use Rattle.std.specs.List.{concat}
use Rattle.std.proofs.lemmas.List.{take_all, drop_all, length-set, get_or-set_same, get_or-set_other}
use Rattle.key_tuple.specs.Order.{FieldList, byte_count}
use Rattle.compact_record.specs.declared.TheConstants.{HEAD_BYTES}
use Rattle.compact_record.specs.declared.kind.RecordKind.{RecordKind}
use Rattle.compact_record.specs.declared.kind.RecordKind.TheVariants.{Row, Pointer, LeftmostPointer}
use Rattle.compact_record.specs.Bytes.{u16_at, SameOutside, SpellsAt, PutsPart}
use Rattle.compact_record.specs.Kind.{status_bits, info_bits, measured}
use Rattle.compact_record.specs.Record.{PlacedRecord, WritesRecord, origin, finish, measured_parts, length_bytes, lengths_bytes}
use Rattle.compact_record.proofs.BytesLemmas.{spells_kept, spells-append, u16_kept, outside-then}
use Rattle.compact_record.proofs.PartLemmas.{lengths-append, lengths_from, lengths_from_le, fields_upto, fields_upto_le, length-concat}

-- one part after another
pub puts-then : {a b c xs ys : List ℕ} {from mid to : ℕ} → PutsPart a b xs from mid → PutsPart b c ys mid to → PutsPart a c (xs ++ ys) from to
puts-then {a} {b} {c} {xs} {ys} {from} {mid} {to} p q =
    let meets = p.end in
    let ends = q.end in
    record {
      end = omega (arith, length-append xs ys);
      spells = spells-append c from xs ys (spells_kept q.kept from xs (inl (omega arith)) p.spells) (rw (← meets) q.spells);
      kept = outside-then {from' = mid} (omega arith) (omega arith) (omega arith) p.kept q.kept;
    }

-- the length below those of the fields after it takes no more than all
pub length_fits : (parts : FieldList) (i j : ℕ) (field : List ℕ) → j ≡ i + 1 → i < length parts → field ≡ get_or parts i []
    → length (lengths_bytes (drop j parts)) + length (length_bytes (length field)) ≤ length (lengths_bytes parts)
length_fits parts i j field next low is =
    rw (next, is) (omega (arith, ap length (lengths_from parts i low), length-append (lengths_bytes (drop (i + 1) parts)) (length_bytes (length (get_or parts i []))), lengths_from_le parts i))

-- one length more, below those of the fields after it
pub length_put : {a b c : List ℕ} {from mid to : ℕ} (parts : FieldList) (i j : ℕ) (field : List ℕ) → j ≡ i + 1 → i < length parts → field ≡ get_or parts i []
    → PutsPart a b (lengths_bytes (drop j parts)) from mid → PutsPart b c (length_bytes (length field)) mid to → PutsPart a c (lengths_bytes (drop i parts)) from to
length_put {a} {b} {c} {from} {mid} {to} parts i j field next low is p q =
    let whole = puts-then (subst (λ (n : ℕ). PutsPart a b (lengths_bytes (drop n parts)) from mid) next p) (subst (λ (x : List ℕ). PutsPart b c (length_bytes (length x)) mid to) is q) in
    rw (lengths_from parts i low) whole

-- the field after those before it takes no more than all
pub field_fits : (fields : FieldList) (i : ℕ) (field : List ℕ) → i < length fields → field ≡ get_or fields i []
    → length (concat (take i fields)) + length field ≤ length (concat fields)
field_fits fields i field low is =
    rw is (omega (arith, ap length (fields_upto fields i low), length-append (concat (take i fields)) (get_or fields i []), fields_upto_le fields (i + 1)))

-- one field more, after those before it
pub field_put : {a b c : List ℕ} {from mid : ℕ} (fields : FieldList) (i : ℕ) (field : List ℕ) → i < length fields → field ≡ get_or fields i []
    → PutsPart a b (concat (take i fields)) from mid → SpellsAt c mid field → SameOutside b c mid (mid + length field)
    → PutsPart a c (concat (take (i + 1) fields)) from (mid + length field)
field_put {a} {b} {c} {from} {mid} fields i field low is p spells kept =
    let q : PutsPart b c field mid (mid + length field) = record { end = refl; spells = spells; kept = kept } in
    let more : concat (take (i + 1) fields) ≡ concat (take i fields) ++ field = fields_upto fields i low ∙ ap (λ (x : List ℕ). concat (take i fields) ++ x) (sym is) in
    rw more (puts-then p q)

-- the length of a row's tail, then those of the key's fields
pub measured_lengths : (kind : RecordKind) (key : FieldList) (tail : List ℕ) → lengths_bytes (measured kind key tail) ≡ lengths_bytes (measured kind [] tail) ++ lengths_bytes key
measured_lengths Row key tail = lengths-append key (tail ∷ [])
measured_lengths Pointer key tail = refl
measured_lengths LeftmostPointer key tail = refl

pub length-measured : (kind : RecordKind) (key : FieldList) (tail : List ℕ) → length (lengths_bytes (measured kind key tail)) ≡ length (lengths_bytes (measured kind [] tail)) + length (lengths_bytes key)
length-measured kind key tail = ap length (measured_lengths kind key tail) ∙ length-append (lengths_bytes (measured kind [] tail)) (lengths_bytes key)

-- the lengths, the head and the body, written in this order
pub record Parts (old b1 b2 b3 b4 b5 : List ℕ) (r : PlacedRecord) (low top from middle : ℕ) : Type 0 where
  pub fits : finish r ≤ length old
  pub first : PutsPart old b1 (lengths_bytes (measured r.kind [] r.tail)) r.start low
  pub lengths : PutsPart b1 b2 (lengths_bytes r.key) low top
  pub from_is : from ≡ top + HEAD_BYTES
  pub info : slice_index b3 top / 16 ≡ info_bits r.kind
  pub owned : slice_index b3 top % 16 ≡ 0
  pub number : u16_at b3 (top + 1) ≡ r.heap_number * 8 + status_bits r.kind
  pub next : u16_at b3 (top + 3) ≡ 0
  pub head : SameOutside b2 b3 top from
  pub key : PutsPart b3 b4 (concat r.key) from middle
  pub tail : SpellsAt b5 middle r.tail
  pub last : SameOutside b4 b5 middle (middle + length r.tail)

pub parts_write : {old b1 b2 b3 b4 b5 : List ℕ} {r : PlacedRecord} {low top from middle : ℕ} → Parts old b1 b2 b3 b4 b5 r low top from middle → WritesRecord old b5 r
parts_write {old} {b1} {b2} {b3} {b4} {b5} {r} {low} {top} {from} {middle} p =
    let lengths : PutsPart old b2 (lengths_bytes (measured_parts r)) r.start top = rw (measured_lengths r.kind r.key r.tail) (puts-then p.first p.lengths) in
    let q : PutsPart b4 b5 r.tail middle (middle + length r.tail) = record { end = refl; spells = p.tail; kept = p.last } in
    let body = puts-then p.key q in
    let size : length (concat r.key ++ r.tail) ≡ byte_count r.key + length r.tail = length-append (concat r.key) r.tail ∙ ap (λ (n : ℕ). n + length r.tail) (length-concat r.key) in
    let low_is = lengths.end in
    let from_is = p.from_is in
    let end_is = body.end in
    let place : origin r ≡ from = omega arith in
    let ends : finish r ≡ middle + length r.tail = omega arith in
    let info_at : origin r - HEAD_BYTES ≡ top = omega arith in
    let number_at : origin r - 4 ≡ top + 1 = omega arith in
    let next_at : origin r - 2 ≡ top + 3 = omega arith in
    let whole : SameOutside b2 b5 top (middle + length r.tail) = outside-then {from' = from} (omega arith) (omega arith) (omega arith) p.head body.kept in
    let same : slice_index b5 top ≡ slice_index b3 top = body.kept.below top (omega arith) in
    record {
      stands = record {
        fits = rw (whole.len, lengths.kept.len) p.fits;
        lengths = spells_kept whole r.start (lengths_bytes (measured_parts r)) (inl (omega arith)) lengths.spells;
        info = rw (info_at, same) p.info;
        number = rw number_at (u16_kept body.kept (top + 1) (inl (omega arith)) ∙ p.number);
        body = rw place body.spells;
      };
      owned = rw (info_at, same) p.owned;
      next = rw next_at (u16_kept body.kept (top + 3) (inl (omega arith)) ∙ p.next);
      kept = rw ends (outside-then {from' = top} (omega arith) (omega arith) (omega arith) lengths.kept whole);
    }

-- no length is written yet
pub lengths_start : (bytes : List ℕ) (at n : ℕ) (parts : FieldList) → n ≡ length parts → PutsPart bytes bytes (lengths_bytes (drop n parts)) at at
lengths_start bytes at n parts is =
    let none : lengths_bytes (drop n parts) ≡ [] = ap lengths_bytes (drop_all n parts (omega arith)) in
    rw none (record {
      end = omega arith;
      spells = record { each = λ k h. absurd (omega arith) };
      kept = record { len = refl; below = λ k h. refl; above = λ k h. refl };
    })

-- all fields are written
pub fields_end : {a b : List ℕ} {from to : ℕ} (fields : FieldList) (i : ℕ) → length fields ≤ i → PutsPart a b (concat (take i fields)) from to → PutsPart a b (concat fields) from to
fields_end {a} {b} {from} {to} fields i over p = subst (λ (xs : FieldList). PutsPart a b (concat xs) from to) (take_all i fields over) p

-- the head's first byte, then its two numbers
pub record HeadWritten (old new : List ℕ) (at x : ℕ) : Type 0 where
  pub byte : slice_index new at ≡ x
  pub kept : SameOutside old new at (at + HEAD_BYTES)

pub head_written : {b new : List ℕ} (old : List ℕ) (at x : ℕ) → at + HEAD_BYTES ≤ length old → SameOutside (set old at x) b (at + 1) (at + 1 + 2)
    → SameOutside b new (at + 3) (at + 3 + 2) → HeadWritten old new at x
head_written {b} {new} old at x room number next = record {
  byte = next.below at (omega arith) ∙ number.below at (omega arith) ∙ get_or-set_same old at x 0 (omega arith);
  kept = record {
    len = next.len ∙ number.len ∙ length-set old at x;
    below = λ k h. next.below k (omega arith) ∙ number.below k (omega arith) ∙ get_or-set_other old at k x 0 (λ e. omega arith);
    above = λ k h. next.above k (omega arith) ∙ number.above k (omega arith) ∙ get_or-set_other old at k x 0 (λ e. omega arith);
  };
}
