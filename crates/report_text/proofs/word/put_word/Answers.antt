use Rattle.std.proofs.Common.{append_assoc}
use Rattle.report_text.proofs.LineLemmas.{Extends-at_last_step, Stays-at_exit, Stays-where_err}
use Rattle.report_text.proofs.word.put_word.Goals as goal

pub returns-in_ok-push-in-Point-clause-ok : goal.returns-in_ok-push-in-Point-clause-ok
returns-in_ok-push-in-Point-clause-ok g c =
    let put = rw c.in_ok-push-in-Point.ensures.items at c.put_number-in-Point.ensures.ok in
    rw c.in-Point.is (simp append_assoc at put)

pub returns-in_err-push-in-Point-clause-err : goal.returns-in_err-push-in-Point-clause-err
returns-in_err-push-in-Point-clause-err g c = Stays-at_exit _ _ _ c.in_err-push-in-Point.ensures.items

pub returns-in_ok-push-in-Point-clause-err : goal.returns-in_ok-push-in-Point-clause-err
returns-in_ok-push-in-Point-clause-err g c = Extends-at_last_step _ _ _ _ _ c.in_ok-push-in-Point.ensures.items c.put_number-in-Point.ensures.err

pub returns-in-Text-clause-err : goal.returns-in-Text-clause-err
returns-in-Text-clause-err g c = Stays-where_err _ _ _ _ c.extend_from_slice.ensures.items

pub returns-in-Statistics-clause-ok : goal.returns-in-Statistics-clause-ok
returns-in-Statistics-clause-ok g c = rw c.in-Statistics.is c.put_counts.ensures.ok

pub returns-in-Value-clause-ok : goal.returns-in-Value-clause-ok
returns-in-Value-clause-ok g c = rw c.in-Value.is c.put_field.ensures.ok

pub returns-in-Key-clause-ok : goal.returns-in-Key-clause-ok
returns-in-Key-clause-ok g c = rw c.in-Key.is c.put_key.ensures.ok

pub returns-in-Number-clause-ok : goal.returns-in-Number-clause-ok
returns-in-Number-clause-ok g c = rw c.in-Number.is c.put_number.ensures.ok
