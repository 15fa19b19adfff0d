use Rattle.std.proofs.Common.{get_or, arith}
use Rattle.lanes.proofs.Doers.{AllZip-each, AllZip-none, became}
use Rattle.lanes.proofs.run.work_all.Goals as goal

pub returns : goal.returns
returns g c =
    AllZip-each g.D.Doer.worked c.args.doers.now c.for_each_mut.new.s c.for_each_mut.auto.s (λ i d below.
    let did = (c.for_each_mut.ensures i d below).1 in
    became g.D.Doer.worked did.argument.now did.after_call.now (get_or c.args.doers.now i d) (get_or c.for_each_mut.new.s i d) did.argument_is did.left did.call)

pub returns-then-threads-eq0 : goal.returns-then-threads-eq0
returns-then-threads-eq0 g c = AllZip-none g.D.Doer.worked c.args.doers.now (omega (arith, c.if-threads-eq0.true))
