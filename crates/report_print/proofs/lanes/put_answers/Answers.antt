use Rattle.std.proofs.Common.{Ok, Err, List, ℕ, sym, subst, arith}
use Rattle.std.proofs.lemmas.List.Concat.{concat_is}
use Rattle.std.proofs.lemmas.Result.{err_from_is_err_and}
use Rattle.report_print.specs.Prints.{PrintsTo}
use Rattle.report_print.proofs.LoopLemmas.{one_more, no_more, all_put}
use Rattle.report_print.proofs.PlaceLemmas.{text_there}
use Rattle.report_print.proofs.lanes.put_answers.Goals as goal

pub returns-in_err-put_line : goal.returns-in_err-put_line
returns-in_err-put_line g c =
    let p = err_from_is_err_and c.from_residual.result c.from_residual.ensures.1 in
    let there = text_there c.args.answers.now c.loop-i.i c.text.result.now (omega (arith, c.count-i-end.ensures)) c.text.ensures in
    rw (p.1, p.2) (subst (λ t. PrintsTo g.K.Sink c.args.sink.now c.put_line.new.sink t (Err c.in_err-put_line.field-0.0)) (sym (concat_is c.args.answers.now)) (no_more (λ (text : List ℕ). text) g.K.Sink _ _ _ c.args.answers.now c.loop-i.i c.text.result.now c.in_err-put_line.field-0.0 there c.loop-i.invariant c.in_err-put_line.ensures))

pub loop-i-preserved : goal.loop-i-preserved
loop-i-preserved g c =
    let there = text_there c.args.answers.now c.loop-i.i c.text.result.now (omega (arith, c.count-i-end.ensures)) c.text.ensures in
    one_more (λ (text : List ℕ). text) g.K.Sink _ _ _ c.args.answers.now c.loop-i.i c.text.result.now there c.loop-i.invariant c.in_ok-put_line.ensures

pub returns : goal.returns
returns g c = subst (λ t. PrintsTo g.K.Sink c.args.sink.now c.loop-i.sink t (Ok tt)) (sym (concat_is c.args.answers.now)) (all_put (λ (text : List ℕ). text) g.K.Sink _ _ c.args.answers.now c.loop-i.i (omega (arith, c.count-i-end.ensures)) c.loop-i.invariant)
