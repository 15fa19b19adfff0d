use Rattle.report_text.proofs.LineLemmas.{Extends-at_last_exit, Extends-at_third_step, OnOk-at_exit, Stays-at_exit, put_in_three}
use Rattle.report_text.proofs.statistics.put_count.Goals as goal

pub returns-in_err-extend_from_slice-clause-ok : goal.returns-in_err-extend_from_slice-clause-ok
returns-in_err-extend_from_slice-clause-ok c = OnOk-at_exit _ _ c.from_residual.ensures.0

pub returns-in_err-extend_from_slice-clause-err : goal.returns-in_err-extend_from_slice-clause-err
returns-in_err-extend_from_slice-clause-err c = Stays-at_exit _ _ _ c.in_err-extend_from_slice.ensures.items

pub returns-in_err-push-clause-ok : goal.returns-in_err-push-clause-ok
returns-in_err-push-clause-ok c = OnOk-at_exit _ _ c.from_residual-in_err-push.ensures.0

pub returns-in_err-push-clause-err : goal.returns-in_err-push-clause-err
returns-in_err-push-clause-err c = Extends-at_last_exit _ _ _ _ _ c.in_ok-extend_from_slice.ensures.items c.in_err-push.ensures.items

pub returns-clause-ok : goal.returns-clause-ok
returns-clause-ok c =
    put_in_three _ _ _ _ _ _ _ _ _ c.as_bytes.ensures.value c.in_ok-extend_from_slice.ensures.items c.in_ok-push.ensures.items c.put_number.ensures.ok

pub returns-clause-err : goal.returns-clause-err
returns-clause-err c =
    Extends-at_third_step _ _ _ _ _ _ _ c.in_ok-extend_from_slice.ensures.items c.in_ok-push.ensures.items c.put_number.ensures.err
