use Rattle.std.proofs.Common.{sym, ap}
use Rattle.hash_upkeep.specs.declared.upkeep.Upkeep.{Upkeep}
use Rattle.hash_maintain.specs.Leaves.{kept_frame}
use Rattle.hash_maintain.proofs.leaves.unhash_if_dropped.Goals as goal

pub returns-in-Dropped : goal.returns-in-Dropped
returns-in-Dropped c = sym (ap (λ (answer : Upkeep). kept_frame answer c.args.frame.now) c.in-Dropped.is)
