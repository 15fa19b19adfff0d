use Rattle.std.proofs.Common.{◌≡◌, ◌≤◌, ℕ, Option, Some, IfSome, inl, length, sym, ap, subst, ◌∙◌, arith}
use Rattle.std.proofs.lemmas.List.{length-map}
use Rattle.key_tuple.specs.Limits.{IsWithinLimits, refusal_of, MAX_FIELDS, MAX_KEY_BYTES}
use Rattle.key_tuple.specs.Order.{byte_count}
use Rattle.key_tuple.specs.declared.error.KeyError.TheVariants.{TooManyFields, TooLong}
use Rattle.key_tuple.proofs.CopyLemmas.{Copies, bytes_of, of_some, too_many, too_long, in_limits, is_told, none_told}
use Rattle.key_tuple.proofs.tuple.Tuple.try_new.Goals as goal

-- the total that was told is that of the fields
total_is : (copies lent : Copies) (o : Option ℕ) (total : ℕ) → lent ≡ copies → o ≡ Some total
    → IfSome o (λ n. n ≡ byte_count (bytes_of lent)) → total ≡ byte_count (bytes_of copies)
total_is copies lent o total same is told =
    of_some (λ n. n ≡ byte_count (bytes_of lent)) o total is told ∙ ap (λ (all : Copies). byte_count (bytes_of all)) same

pub invariant_of-result : goal.invariant_of-result
invariant_of-result c = let fields = bytes_of c.args.fields.items in
    let count : c.len-count.result ≡ length fields = omega (arith, c.len-count.ensures, c.args.fields.ok.0, length-map c.args.fields.items (λ f. f.items)) in
    let few : length fields ≤ MAX_FIELDS = omega (arith, count, c.from.ensures, c.if-count-from.false) in
    let total = total_is c.args.fields.items c.deref.result.now c.total_len.result c.in_ok-total.total
    c.deref.ensures.value c.in_ok-total.ensures.ok_part c.total_len.ensures in
    let short : byte_count fields ≤ MAX_KEY_BYTES = omega (arith, total, c.if-total-gt-MAX_KEY_BYTES.false) in
    let same = c.in_ok-buffer.ensures ∙ ap bytes_of c.deref-2.ensures.value in
    subst IsWithinLimits (sym same) (record { few = few; short = short })

pub returns-clause-refused : goal.returns-clause-refused
returns-clause-refused c = let fields = bytes_of c.args.fields.items in
    let count : c.len-count.result ≡ length fields = omega (arith, c.len-count.ensures, c.args.fields.ok.0, length-map c.args.fields.items (λ f. f.items)) in
    let few : length fields ≤ MAX_FIELDS = omega (arith, count, c.from.ensures, c.if-count-from.false) in
    let total = total_is c.args.fields.items c.deref.result.now c.total_len.result c.in_ok-total.total
    c.deref.ensures.value c.in_ok-total.ensures.ok_part c.total_len.ensures in
    let short : byte_count fields ≤ MAX_KEY_BYTES = omega (arith, total, c.if-total-gt-MAX_KEY_BYTES.false) in
    none_told (refusal_of fields) _ (in_limits fields (record { few = few; short = short }))

pub returns-then-total-gt-MAX_KEY_BYTES-clause-refused : goal.returns-then-total-gt-MAX_KEY_BYTES-clause-refused
returns-then-total-gt-MAX_KEY_BYTES-clause-refused c = let fields = bytes_of c.args.fields.items in
    let count : c.len-count.result ≡ length fields = omega (arith, c.len-count.ensures, c.args.fields.ok.0, length-map c.args.fields.items (λ f. f.items)) in
    let few : length fields ≤ MAX_FIELDS = omega (arith, count, c.from.ensures, c.if-count-from.false) in
    let total = total_is c.args.fields.items c.deref.result.now c.total_len.result c.in_ok-total.total
    c.deref.ensures.value c.in_ok-total.ensures.ok_part c.total_len.ensures in
    is_told _ (refusal_of fields) (TooLong c.in_ok-total.total)
    (too_long fields c.in_ok-total.total few total c.if-total-gt-MAX_KEY_BYTES.true)

pub returns-then-total-gt-MAX_KEY_BYTES-clause-cause : goal.returns-then-total-gt-MAX_KEY_BYTES-clause-cause
returns-then-total-gt-MAX_KEY_BYTES-clause-cause c = let fields = bytes_of c.args.fields.items in
    let count : c.len-count.result ≡ length fields = omega (arith, c.len-count.ensures, c.args.fields.ok.0, length-map c.args.fields.items (λ f. f.items)) in
    let few : length fields ≤ MAX_FIELDS = omega (arith, count, c.from.ensures, c.if-count-from.false) in
    let total = total_is c.args.fields.items c.deref.result.now c.total_len.result c.in_ok-total.total
    c.deref.ensures.value c.in_ok-total.ensures.ok_part c.total_len.ensures in
    inl (too_long fields c.in_ok-total.total few total c.if-total-gt-MAX_KEY_BYTES.true)

pub gather-requires-clause-total : goal.gather-requires-clause-total
gather-requires-clause-total c = let total = total_is c.args.fields.items c.deref.result.now c.total_len.result c.in_ok-total.total
    c.deref.ensures.value c.in_ok-total.ensures.ok_part c.total_len.ensures in
    total ∙ sym (ap (λ (copies : Copies). byte_count (bytes_of copies)) c.deref-2.ensures.value)

pub returns-clause-ok : goal.returns-clause-ok
returns-clause-ok c = c.in_ok-buffer.ensures ∙ ap bytes_of c.deref-2.ensures.value

pub returns-then-count-from-clause-refused : goal.returns-then-count-from-clause-refused
returns-then-count-from-clause-refused c = let fields = bytes_of c.args.fields.items in
    let count : c.len-count.result ≡ length fields = omega (arith, c.len-count.ensures, c.args.fields.ok.0, length-map c.args.fields.items (λ f. f.items)) in
    is_told _ (refusal_of fields) (TooManyFields c.len-count.result)
    (too_many fields c.len-count.result count (omega (arith, c.from.ensures, c.if-count-from.true)))

pub returns-then-count-from-clause-cause : goal.returns-then-count-from-clause-cause
returns-then-count-from-clause-cause c = let fields = bytes_of c.args.fields.items in
    let count : c.len-count.result ≡ length fields = omega (arith, c.len-count.ensures, c.args.fields.ok.0, length-map c.args.fields.items (λ f. f.items)) in
    inl (too_many fields c.len-count.result count (omega (arith, c.from.ensures, c.if-count-from.true)))
