use Rattle.hash_partition.proofs.partition.Partition.leave.Goals as goal

pub returns-clause-taken : goal.returns-clause-taken
returns-clause-taken c = rw (← c.self.view_is) c.take_out.ensures.taken

pub returns-clause-absent : goal.returns-clause-absent
returns-clause-absent c = rw (← c.self.view_is) c.take_out.ensures.absent
