use Rattle.report_text.proofs.LineLemmas.{Stays-at_exit}
use Rattle.report_text.proofs.field.put_separator.Goals as goal

pub returns-in_err-push-clause-err : goal.returns-in_err-push-clause-err
returns-in_err-push-clause-err c = Stays-at_exit _ _ _ c.in_err-push.ensures.items
