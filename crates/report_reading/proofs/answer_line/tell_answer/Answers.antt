-- What is told, if the operation may have such an answer.
use Rattle.std.proofs.Common.{refl, sym, ap, ◌∙◌}
use Rattle.std.proofs.lemmas.Result.{err_from_is_err_and}
use Rattle.map_history.specs.LegalReport.{has_form}
use Rattle.map_history.specs.Operation.{operation_of}
use Rattle.report_forms.specs.Answers.{answer_told}
use Rattle.script.specs.Pieces.{pieces_left}
use Rattle.report_reading.specs.Reads.{passing}
use Rattle.report_reading.proofs.AnswerToldLemmas.{answers_of, answers_none}
use Rattle.report_reading.proofs.answer_line.tell_answer.Goals as goal

pub returns-in_err-answer : goal.returns-in_err-answer
returns-in_err-answer c =
    let p = err_from_is_err_and c.from_residual.result c.from_residual.ensures.1 in
    rw (p.1, p.2) (answers_none c.args.fields (operation_of c.args.op.now).ask (answer_told (pieces_left c.args.words)) c.in_err-answer.field-0.0 c.in_err-answer.ensures)

pub returns-then-not-may_answer : goal.returns-then-not-may_answer
returns-then-not-may_answer c =
    let ask = (operation_of c.args.op.now).ask in
    answers_of c.args.fields ask (answer_told (pieces_left c.args.words)) ∙ (ap (passing (has_form ask)) c.in_ok-answer.ensures ∙ rw (sym c.if-not-may_answer.ensures) refl)

pub returns : goal.returns
returns c =
    let ask = (operation_of c.args.op.now).ask in
    answers_of c.args.fields ask (answer_told (pieces_left c.args.words)) ∙ (ap (passing (has_form ask)) c.in_ok-answer.ensures ∙ rw (sym c.if-not-may_answer.ensures) refl)
