-- Each piece is one field more, or the word is bad.
use Rattle.std.proofs.Common.{◌≡◌, ℕ, ◌<◌, [], ◌∷◌, ◌++◌, length, sym, ap, ◌∙◌, arith}
use Rattle.std.proofs.lemmas.Result.{err_from_is_err_and}
use Rattle.key_tuple.specs.Parts.{parts}
use Rattle.key_tuple.proofs.PartsLemmas.{length-parts}
use Rattle.script.specs.Grammar.{tuple_of, field_of, fields_in}
use Rattle.script.specs.Pieces.{pieces_left}
use Rattle.script.proofs.KeyFields.{none_so_far, one_too_many, no_field, not_put, field_more, all_there}
use Rattle.script.proofs.rows.tuple_text.Goals as goal

pub returns-then-len-from-clause-fields : goal.returns-then-len-from-clause-fields
returns-then-len-from-clause-fields c =
    one_too_many c.args.most (tuple_of c.args.word.now) (parts c.loop-text.bytes.items 0 c.loop-text.ends.items) (pieces_left c.loop-text.text-iterator) c.in-Some.text.now (pieces_left c.next.new.self)
    c.loop-text.invariant.0.told c.in-Some.ensures.steps (length-parts c.loop-text.bytes.items 0 c.loop-text.ends.items ∙ omega arith)

pub returns-in_err-add_field-clause-fields : goal.returns-in_err-add_field-clause-fields
returns-in_err-add_field-clause-fields c =
    let p = err_from_is_err_and c.from_residual-in_err-add_field.result c.from_residual-in_err-add_field.ensures.1 in
    let bad = not_put c.loop-text.bytes.items (field_of c.in-Some.text.now) c.in_err-add_field.field-0.0 c.in_err-add_field.ensures in
    rw (p.1, p.2) (no_field c.args.most (tuple_of c.args.word.now) (parts c.loop-text.bytes.items 0 c.loop-text.ends.items) (pieces_left c.loop-text.text-iterator) c.in-Some.text.now (pieces_left c.next.new.self) c.in_err-add_field.field-0.0
    c.loop-text.invariant.0.told c.in-Some.ensures.steps bad)

pub loop-text-preserved : goal.loop-text-preserved
loop-text-preserved c =
    let end : c.len-in-loop-text.result ≡ length c.add_field.new.bytes.items = omega (arith, c.len-in-loop-text.ensures, c.add_field.new.bytes.ok.0) in
    let pushed = c.push.ensures.items ∙ ap (λ (n : ℕ). c.loop-text.ends.items ++ n ∷ []) end in
    let fields = field_more (tuple_of c.args.word.now) c.loop-text.bytes.items c.loop-text.ends.items c.add_field.new.bytes.items c.push.new.self.items (pieces_left c.loop-text.text-iterator) c.in-Some.text.now (pieces_left c.next.new.self)
    c.loop-text.invariant.0 c.in-Some.ensures.steps c.in_ok-add_field.ensures pushed in
    (fields, grind arith)

pub returns-clause-fields : goal.returns-clause-fields
returns-clause-fields c =
    all_there c.args.most (tuple_of c.args.word.now) c.loop-text.bytes.items c.loop-text.ends.items (pieces_left c.loop-text.text-iterator) c.loop-text.invariant.0 c.in-None.ensures.steps.0 c.loop-text.invariant.1

pub loop-text-init : goal.loop-text-init
loop-text-init c =
    let pieces = ap fields_in (sym (ap pieces_left c.into_iter-text-iterator.ensures.into_iter_gives ∙ c.new-text-items.ensures)) in (
      none_so_far (tuple_of c.args.word.now) c.in_ok-bytes.bytes.items c.new-ends.result.items (pieces_left c.into_iter-text-iterator.result) c.in_ok-bytes.ensures.items c.new-ends.ensures pieces,
      omega (arith, ap length c.new-ends.ensures),
    )

pub returns-clause-few : goal.returns-clause-few
returns-clause-few c = c.loop-text.invariant.1

pub push-requires : goal.push-requires
push-requires c =
    let below : length c.loop-text.ends.items < 4 = omega (arith, c.requires, c.loop-text.invariant.1, c.if-len-from.false, c.len.ensures.value, c.from.ensures) in
    (omega arith, below)

pub returns-clause-rise : goal.returns-clause-rise
returns-clause-rise c = c.loop-text.invariant.0.rise

pub returns-then-len-from-clause-rise : goal.returns-then-len-from-clause-rise
returns-then-len-from-clause-rise c = tt

pub returns-then-len-from-clause-few : goal.returns-then-len-from-clause-few
returns-then-len-from-clause-few c = tt
