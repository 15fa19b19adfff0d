use Rattle.lanes.proofs.run.fn.work_all.for_each_mut.Goals as goal

-- a doer that works once
pub returns : goal.returns
returns g c = c.work.ensures
