use Rattle.std.proofs.Common.{◌≡◌, ◌+◌, ◌-◌, ◌<◌, ◌≤◌, ◌++◌, ◌∷◌, [], ℕ, List, length, take, get_or, set, refl, sym, ap, ◌∙◌, subst, arith, append-nil, length-append, length-take}
use Rattle.std.proofs.lemmas.List.{take_more}
use Rattle.std.proofs.Math.Seq.{take-length}
use Rattle.key_tuple.specs.declared.TheConstants.{MAX_FIELDS}
use Rattle.key_tuple.specs.Order.{FieldList}
use Rattle.index_page.specs.Slots.{PutsFields}
use Rattle.list_facts.proofs.Outcomes.{when_err}
use Rattle.index_page.proofs.SlotLemmas.{puts_more, first_fields, added_long}
use Rattle.index_page.proofs.appending.append_fields.Goals as goal

pub loop-i-init : goal.loop-i-init
loop-i-init g c = record { added = []; items = sym (append-nil c.args.bytes.now.items); offsets = refl; rise = refl; says = refl }

pub returns-in_err-extend_from_slice-clause-err : goal.returns-in_err-extend_from_slice-clause-err
returns-in_err-extend_from_slice-clause-err g c =
    let put = c.loop-i.invariant in
    when_err c.from_residual.result (record { more = put.added; items = c.in_err-extend_from_slice.ensures.items ∙ put.items })

came_to : (old now new added field : List ℕ) (start end : ℕ) → start ≡ length old → end ≡ length new → now ≡ old ++ added → new ≡ now ++ field → end ≡ start + (length added + length field)
came_to old now new added field start end starts ends before more = omega (arith, starts, ends, ap length before, ap length more, length-append old added, length-append now field)

-- one more field came
one_more : (old now new : List ℕ) (fields : FieldList) (i count from start end : ℕ) (ends field : List ℕ) → i < count → count ≡ length fields → length fields ≤ MAX_FIELDS
    → start ≡ length old → end ≡ length new → PutsFields old now (take i fields) ends → new ≡ now ++ field → field ≡ get_or fields i [] → from ≡ i → PutsFields old new (take (i + 1) fields) (set ends from (end - start))
one_more old now new fields i count from start end ends field test counted room starts ends_at put more is at =
    let below : i < length fields = omega (arith, test, counted) in
    let few : length (take i fields) ≡ i = length-take i fields ∙ omega (arith, below) in
    let came = came_to old now new put.added field start end starts ends_at put.items more in
    let next = puts_more old now new (take i fields) ends field (end - start) put (omega (arith, few, below, room)) more (omega (arith, came)) in
    let here : take i fields ++ field ∷ [] ≡ take (i + 1) fields = ap (λ (x : List ℕ). take i fields ++ x ∷ []) is ∙ sym (take_more fields i [] below) in
    let place : length (take i fields) ≡ from = few ∙ sym at in
    subst (λ (n : ℕ). PutsFields old new (take (i + 1) fields) (set ends n (end - start))) place (subst (λ (xs : FieldList). PutsFields old new xs (set ends (length (take i fields)) (end - start))) here next)

-- how many bytes came
came : (g : _) (c : goal.After-len g) → c.len.result ≡ c.len-start.result + (length c.loop-i.invariant.added + length c.field.result.now)
came g c =
    came_to c.args.bytes.now.items c.loop-i.bytes.items c.extend_from_slice.new.self.items c.loop-i.invariant.added c.field.result.now c.len-start.result c.len.result
    (c.len-start.ensures ∙ c.args.bytes.now.ok.0) (c.len.ensures ∙ c.extend_from_slice.new.self.ok.0) c.loop-i.invariant.items c.in_ok-extend_from_slice.ensures.items

pub overflow_sub-ends : goal.overflow_sub-ends
overflow_sub-ends g c = omega (arith, came g c)

pub overflow_cast-ends : goal.overflow_cast-ends
overflow_cast-ends g c =
    let fields = g.A.Fields.fields_of c.args.fields.now in
    let short = first_fields fields c.loop-i.i (omega (arith, c.loop-i-test.true, c.count-i-end.ensures)) in
    let put = added_long c.args.bytes.now.items c.loop-i.bytes.items (take c.loop-i.i fields) c.loop-i.ends c.loop-i.invariant in
    omega (arith, came g c, short, put, ap length c.field.ensures.bytes, c.requires.short)

pub loop-i-preserved : goal.loop-i-preserved
loop-i-preserved g c =
    let fields = g.A.Fields.fields_of c.args.fields.now in
    one_more c.args.bytes.now.items c.loop-i.bytes.items c.extend_from_slice.new.self.items fields c.loop-i.i c.count-i-end.result c.from.result c.len-start.result c.len.result
    c.loop-i.ends c.field.result.now c.loop-i-test.true c.count-i-end.ensures c.requires.few (c.len-start.ensures ∙ c.args.bytes.now.ok.0) (c.len.ensures ∙ c.extend_from_slice.new.self.ok.0)
    c.loop-i.invariant c.in_ok-extend_from_slice.ensures.items c.field.ensures.bytes c.from.ensures

pub returns-clause-ok : goal.returns-clause-ok
returns-clause-ok g c =
    let fields = g.A.Fields.fields_of c.args.fields.now in
    let all : take c.loop-i.i fields ≡ fields = ap (λ (n : ℕ). take n fields) (omega (arith, c.loop-i-test.false, c.count-i-end.ensures, c.loop-i.auto.i-end)) ∙ take-length fields in
    subst (λ (xs : FieldList). PutsFields c.args.bytes.now.items c.loop-i.bytes.items xs c.loop-i.ends) all c.loop-i.invariant
