use Rattle.hash_partition.proofs.partition.Partition.find.Goals as goal

pub returns : goal.returns
returns c = rw (← c.self.view_is) c.find.ensures
