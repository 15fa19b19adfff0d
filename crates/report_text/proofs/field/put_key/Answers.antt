use Rattle.std.proofs.Common.{◌≡◌, ◌<◌, [], length, arith, rules}
use Rattle.map_history.specs.Text.{field_text}
use Rattle.report_text.proofs.LineLemmas.{Extends-at_exit, Extends-at_second_exit, joined_more, joined_all}
use Rattle.report_text.proofs.field.put_key.Goals as goal

pub returns-in_err-put_separator-clause-err : goal.returns-in_err-put_separator-clause-err
returns-in_err-put_separator-clause-err g c =
    Extends-at_exit _ _ _ _ _ c.loop-i.invariant c.in_err-put_separator.ensures.err

pub returns-in_err-put_field-clause-err : goal.returns-in_err-put_field-clause-err
returns-in_err-put_field-clause-err g c =
    Extends-at_second_exit _ _ _ _ _ _ _ c.loop-i.invariant c.in_ok-put_separator.ensures.ok c.in_err-put_field.ensures.err

pub loop-i-preserved : goal.loop-i-preserved
loop-i-preserved g c =
    let here : c.loop-i.i < length (g.K.Fields.fields_of c.args.key.now) = omega (arith, c.count-i-end.ensures) in
    let place : c.from.result ≡ c.loop-i.i = search rules in
    joined_more 44 field_text (g.K.Fields.fields_of c.args.key.now) c.loop-i.i c.from.result [] c.field.result.now _ _ _ _
    here place c.field.ensures.bytes c.loop-i.invariant c.in_ok-put_separator.ensures.ok c.in_ok-put_field.ensures.ok

pub returns-clause-ok : goal.returns-clause-ok
returns-clause-ok g c =
    joined_all 44 field_text (g.K.Fields.fields_of c.args.key.now) c.loop-i.i _ _ (omega (arith, c.count-i-end.ensures, c.loop-i-test.false)) c.loop-i.invariant
