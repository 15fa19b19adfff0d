use Rattle.std.proofs.Common.{ap}
use Rattle.hash_partition.specs.Part.{Part, stamped}
use Rattle.hash_partition.proofs.partition.Partition.set_stamp.Goals as goal

pub returns : goal.returns
returns c = ap (λ (part : Part). stamped part c.args.block c.args.clock) c.self.view_is
