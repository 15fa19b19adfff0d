use Rattle.lanes.proofs.Doers.{AllZip-lent}
use Rattle.lanes.proofs.run.run_lanes.Goals as goal

pub returns : goal.returns
returns g c = AllZip-lent g.D.Doer.worked c.args.doers.len c.args.doers.items c.as_mut_slice.result.now c.work_all.new.doers c.as_mut_slice.ensures.value c.as_mut_slice.ensures.len c.work_all.ensures
