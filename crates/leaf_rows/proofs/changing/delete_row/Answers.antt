use Rattle.leaf_rows.proofs.ChangeLemmas.{takes_out}
use Rattle.leaf_rows.proofs.changing.delete_row.Goals as goal

pub returns-clause-rows : goal.returns-clause-rows
returns-clause-rows c = takes_out c.args.frame.now c.args.place c.in-Some.page c.in-Some.is
    c.delete.ensures.order c.has_clock.ensures
