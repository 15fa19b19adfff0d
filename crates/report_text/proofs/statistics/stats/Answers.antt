use Rattle.report_text.proofs.statistics.stats.Goals as goal

pub returns-clause-ok : goal.returns-clause-ok
returns-clause-ok c = c.put_line.ensures.ok

pub returns-clause-err : goal.returns-clause-err
returns-clause-err c = c.put_line.ensures.err
