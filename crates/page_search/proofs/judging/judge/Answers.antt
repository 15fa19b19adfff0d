use Rattle.std.proofs.Common.{◌≡◌, ◌∙◌, ◌≤◌, ◌+◌, ◌-◌, ◌/◌, ◌<◌, ℕ, Bool, List, [], length, drop, get_or, ap, ap₂, sym, arith, bit_xor, nat_lt, nat_cmp, is_lt, inl, inr, Equal}
use Rattle.std.proofs.lemmas.Bool.{cases_lt}
use Rattle.std.proofs.lemmas.Nat.{leading_le}
use Rattle.std.specs.Int.{w64, leading_zeros}
use Rattle.std.specs.Cmp.Lexicographic.{slice_cmp}
use Rattle.key_tuple.specs.Order.{FieldList}
use Rattle.key_tuple.specs.Figures.{equal_bytes}
use Rattle.compact_record.specs.Record.{PlacedRecord}
use Rattle.compact_record.specs.Reading.{record_at}
use Rattle.byteorder.specs.Endian.{big_number}
use Rattle.key_tuple.specs.declared.mode.Mode.{Mode}
use Rattle.page_search.specs.declared.agreement.Agreement.{Agreement}
use Rattle.page_search.specs.Agreeing.{agreed}
use Rattle.page_search.specs.Cuts.{admits_at}
use Rattle.page_search.specs.Judging.{Judges}
use Rattle.page_search.proofs.JudgeLemmas.{first_some, starts_equal, apart_judged, whole_judged}
use Rattle.page_search.proofs.WordLemmas.{AreBytes, told_at, same_at, apart_at, all_same}
use Rattle.page_search.proofs.judging.judge.Goals as goal

-- a row has a first field where the tuple has one
row_some : (tuple : FieldList) (first : List ℕ) (row r : PlacedRecord) (fields : ℕ) → first ≡ get_or tuple 0 [] → 8 ≤ length first → length tuple ≤ fields
    → length r.key ≡ fields → row ≡ r → 0 < length row.key
row_some tuple first row r fields is long within count read =
    let some = first_some tuple first is (omega arith) in
    let same = ap (λ (x : PlacedRecord). length x.key) read in
    omega arith

word_within : (place first other : ℕ) → place ≤ first - 8 → 8 ≤ first → first ≤ other → place + 8 ≤ other
word_within place first other low long less = omega arith

word_ends : (first other : ℕ) → 8 ≤ first → first ≤ other → first - 8 + 8 ≤ other
word_ends first other long less = omega arith

-- the equal bytes of two words, and those before them, are no more than the field's
place_short : (first place left right equal : ℕ) → equal ≡ leading_zeros w64 (bit_xor left right) / 8 → place ≤ first - 8 → first < 65536 → place + equal < 65536
place_short first place left right equal is within short = omega (arith, is, leading_le 64 (bit_xor left right), within, short)

itself : (n : ℕ) → n ≤ n
itself n = omega arith

-- the row's first field is that of the record that was read
other_first : (row r : PlacedRecord) (other : List ℕ) → other ≡ get_or row.key 0 [] → row ≡ r → other ≡ get_or r.key 0 []
other_first row r other is read = is ∙ ap (λ (x : PlacedRecord). get_or x.key 0 []) read

-- words of the first fields that differ
words_judged : (mode : Mode) (t k : FieldList) (first other : List ℕ) (place fields left right equal : ℕ) (f : Agreement) → first ≡ get_or t 0 [] → other ≡ get_or k 0 []
    → 8 ≤ length first → length first ≤ length other → place ≤ length first - 8 → length t ≤ fields → length k ≡ fields
    → AreBytes first → AreBytes other → place ≤ equal_bytes first other → left ≡ big_number 8 (drop place first) → right ≡ big_number 8 (drop place other) → (left ≡ right → ⊥)
    → equal ≡ leading_zeros w64 (bit_xor left right) / 8 → (agreed f).fields ≡ 0 → (agreed f).bytes ≡ place + equal → Judges mode t k (record { admitted = nat_lt left right; figures = f })
words_judged mode t k first other place fields left right equal f is other_is long longer within short count first_bytes other_bytes so_far left_is right_is other_words equal_is no_fields bytes =
    let told = told_at first other place first_bytes other_bytes (word_within place (length first) (length first) within long (itself (length first))) (word_within place (length first) (length other) within long longer) in
    let apart = apart_at first other place so_far told (λ e. other_words (left_is ∙ e ∙ sym right_is)) in
    let zeros = equal_is ∙ ap₂ (λ (a b : ℕ). leading_zeros w64 (bit_xor a b) / 8) left_is right_is in
    let order = ap₂ (λ (a b : List ℕ). slice_cmp nat_cmp a b) is other_is in
    apart_judged mode t k (nat_lt left right) f (first_some t first is (omega (arith, long))) (omega (arith, short, count))
    (ap₂ nat_lt left_is right_is ∙ apart.0 ∙ ap is_lt order) no_fields
    (bytes ∙ ap (λ (n : ℕ). place + n) zeros ∙ apart.1 ∙ ap₂ equal_bytes is other_is) (λ e. apart.2 (order ∙ e))

-- the only field, as long as the key's first, whose words are equal
fields_judged : (mode : Mode) (t k : FieldList) (first other : List ℕ) (place fields left right count : ℕ) (admitted : Bool) (f : Agreement) → first ≡ get_or t 0 [] → other ≡ get_or k 0 []
    → 8 ≤ length first → length first ≤ length other → length other ≤ length first → place ≤ length first - 8 → length t ≤ fields → length k ≡ fields → count ≡ length t → count ≤ 1
    → AreBytes first → AreBytes other → place ≤ equal_bytes first other → (place < length first - 8 → big_number 8 (drop place first) ≡ big_number 8 (drop place other) → ⊥)
    → left ≡ big_number 8 (drop place first) → right ≡ big_number 8 (drop place other) → left ≡ right
    → admitted ≡ admits_at mode Equal → (agreed f).fields ≡ 1 → (agreed f).bytes ≡ 0 → Judges mode t k (record { admitted = admitted; figures = f })
fields_judged mode t k first other place fields left right count admitted f is other_is long longer no_longer within short key_count counted one first_bytes other_bytes so_far apart left_is right_is same_words admitted_is one_field bytes =
    let some = first_some t first is (omega (arith, long)) in
    let told = told_at first other place first_bytes other_bytes (word_within place (length first) (length first) within long (itself (length first))) (word_within place (length first) (length other) within long longer) in
    let equal = sym left_is ∙ same_words ∙ right_is in
    let more = same_at first other place so_far told equal in
    let all : length first ≤ equal_bytes first other = elim (cases_lt place (length first - 8)) [
      | inl less ↦ absurd (apart less equal)
      | inr end ↦ omega (arith, end, more)
    ] in
    let same = all_same first other all (omega (arith, longer, no_longer)) in
    whole_judged mode t k admitted f one_field bytes (omega (arith, some, counted, one)) (omega (arith, some, key_count, short)) (sym is ∙ same ∙ other_is) admitted_is

pub first_apart-place-requires-clause-start : goal.first_apart-place-requires-clause-start
first_apart-place-requires-clause-start g c =
    let t = g.A.Fields.fields_of c.args.tuple.now in
    let k = (record_at c.args.page.now c.args.at c.args.fields).key in
    let other_is = other_first c.view-row.result (record_at c.args.page.now c.args.at c.args.fields) c.field-other.result.now c.field-other.ensures.bytes c.view-row.ensures in
    starts_equal t k (agreed c.args.from) c.args.first.now c.field-other.result.now c.from-start.result c.requires.agrees (c.is_in_first.ensures c.if-not-is_in_first.false) c.requires.first.is other_is (c.from-start.ensures ∙ c.bytes.ensures)

pub overflow_cast-place : goal.overflow_cast-place
overflow_cast-place g c =
    omega (arith, place_short (length c.args.first.now) c.first_apart-place.result c.word-left.result c.word-right.result c.equal_in.result c.equal_in.ensures c.first_apart-place.ensures.within c.requires.first.short)

pub returns-then-left-right : goal.returns-then-left-right
returns-then-left-right g c =
    words_judged c.args.mode (g.A.Fields.fields_of c.args.tuple.now) (record_at c.args.page.now c.args.at c.args.fields).key c.args.first.now c.field-other.result.now
    c.first_apart-place.result c.args.fields c.word-left.result c.word-right.result c.equal_in.result c.new.result c.requires.first.is
    (other_first c.view-row.result (record_at c.args.page.now c.args.at c.args.fields) c.field-other.result.now c.field-other.ensures.bytes c.view-row.ensures)
    c.if-first-lt-WORD.false c.if-other-first.false c.first_apart-place.ensures.within c.requires.tuple c.requires.there.count
    c.word-left.ensures.bytes c.word-right.ensures.bytes c.first_apart-place.ensures.equal c.word-left.ensures.number c.word-right.ensures.number c.if-left-right.true
    c.equal_in.ensures c.new.ensures.fields c.new.ensures.bytes

pub returns : goal.returns
returns g c =
    fields_judged c.args.mode (g.A.Fields.fields_of c.args.tuple.now) (record_at c.args.page.now c.args.at c.args.fields).key c.args.first.now c.field-other.result.now
    c.first_apart-place.result c.args.fields c.word-left.result c.word-right.result c.count.result c.is_admitted.result c.new-2.result c.requires.first.is
    (other_first c.view-row.result (record_at c.args.page.now c.args.at c.args.fields) c.field-other.result.now c.field-other.ensures.bytes c.view-row.ensures)
    c.if-first-lt-WORD.false c.if-other-first.false c.if-other-first-2.false c.first_apart-place.ensures.within c.requires.tuple c.requires.there.count
    c.count.ensures c.if-count-gt1.false c.word-left.ensures.bytes c.word-right.ensures.bytes c.first_apart-place.ensures.equal c.first_apart-place.ensures.apart
    c.word-left.ensures.number c.word-right.ensures.number c.if-left-right.false c.is_admitted.ensures c.new-2.ensures.fields c.new-2.ensures.bytes

pub judge_all-requires-then-count-gt1-clause-there : goal.judge_all-requires-then-count-gt1-clause-there
judge_all-requires-then-count-gt1-clause-there g c = c.requires.there

pub field-other-requires : goal.field-other-requires
field-other-requires g c =
    row_some (g.A.Fields.fields_of c.args.tuple.now) c.args.first.now c.view-row.result (record_at c.args.page.now c.args.at c.args.fields) c.args.fields
    c.requires.first.is c.if-first-lt-WORD.false c.requires.tuple c.requires.there.count c.view-row.ensures

pub overflow_add-place : goal.overflow_add-place
overflow_add-place g c =
    omega (arith, place_short (length c.args.first.now) c.first_apart-place.result c.word-left.result c.word-right.result c.equal_in.result c.equal_in.ensures c.first_apart-place.ensures.within c.requires.first.short)

pub judge_all-requires-then-count-gt1-clause-tuple : goal.judge_all-requires-then-count-gt1-clause-tuple
judge_all-requires-then-count-gt1-clause-tuple g c = c.requires.tuple

pub judge_all-requires-then-other-first-clause-there : goal.judge_all-requires-then-other-first-clause-there
judge_all-requires-then-other-first-clause-there g c = c.requires.there

pub judge_all-requires-then-count-gt1-clause-agrees : goal.judge_all-requires-then-count-gt1-clause-agrees
judge_all-requires-then-count-gt1-clause-agrees g c = c.requires.agrees

pub judge_all-requires-clause-there : goal.judge_all-requires-clause-there
judge_all-requires-clause-there g c = c.requires.there

pub view-row-requires : goal.view-row-requires
view-row-requires g c = c.requires.there

pub word-right-requires : goal.word-right-requires
word-right-requires g c =
    word_within c.first_apart-place.result (length c.args.first.now) (length c.field-other.result.now) c.first_apart-place.ensures.within
    c.if-first-lt-WORD.false c.if-other-first.false

pub first_apart-place-requires-clause-left : goal.first_apart-place-requires-clause-left
first_apart-place-requires-clause-left g c = word_ends (length c.args.first.now) (length c.args.first.now) c.if-first-lt-WORD.false (itself (length c.args.first.now))

pub first_apart-place-requires-clause-right : goal.first_apart-place-requires-clause-right
first_apart-place-requires-clause-right g c = word_ends (length c.args.first.now) (length c.field-other.result.now) c.if-first-lt-WORD.false c.if-other-first.false

pub word-left-requires : goal.word-left-requires
word-left-requires g c =
    word_within c.first_apart-place.result (length c.args.first.now) (length c.args.first.now) c.first_apart-place.ensures.within c.if-first-lt-WORD.false (itself (length c.args.first.now))

pub overflow_sub-first : goal.overflow_sub-first
overflow_sub-first g c = c.if-first-lt-WORD.false

pub judge_all-requires-then-other-first-clause-tuple : goal.judge_all-requires-then-other-first-clause-tuple
judge_all-requires-then-other-first-clause-tuple g c = c.requires.tuple

pub judge_all-requires-then-other-first-clause-agrees : goal.judge_all-requires-then-other-first-clause-agrees
judge_all-requires-then-other-first-clause-agrees g c = c.requires.agrees

pub returns-then-count-gt1 : goal.returns-then-count-gt1
returns-then-count-gt1 g c = c.judge_all-then-count-gt1.ensures

pub returns-then-other-first : goal.returns-then-other-first
returns-then-other-first g c = c.judge_all-then-other-first.ensures
