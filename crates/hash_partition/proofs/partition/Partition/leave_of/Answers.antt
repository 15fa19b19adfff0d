use Rattle.hash_partition.proofs.partition.Partition.leave_of.Goals as goal

pub returns-clause-fold : goal.returns-clause-fold
returns-clause-fold c = c.take_of.ensures.fold

pub returns-clause-absent : goal.returns-clause-absent
returns-clause-absent c = rw (← c.self.view_is) c.take_of.ensures.absent
