use Rattle.report_text.proofs.LineLemmas.{Extends-at_last_step, Stays-at_exit}
use Rattle.report_text.proofs.field.put_run.Goals as goal

pub returns-in_err-extend_from_slice-clause-err : goal.returns-in_err-extend_from_slice-clause-err
returns-in_err-extend_from_slice-clause-err c = Stays-at_exit _ _ _ c.in_err-extend_from_slice.ensures.items

pub returns-clause-err : goal.returns-clause-err
returns-clause-err c = Extends-at_last_step _ _ _ _ _ c.in_ok-extend_from_slice.ensures.items c.put_byte.ensures.err

pub returns-clause-ok : goal.returns-clause-ok
returns-clause-ok c = rw c.in_ok-extend_from_slice.ensures.items at c.put_byte.ensures.ok
