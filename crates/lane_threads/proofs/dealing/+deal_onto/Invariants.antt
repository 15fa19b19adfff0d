use Rattle.std.proofs.Common.{◌-◌}
use Rattle.lane_threads.specs.Engine.{known}
use Rattle.lane_threads.proofs.dealing.+deal_onto.Given as goal

abbrev pub decreases-deal_onto : goal.decreases-deal_onto
decreases-deal_onto l = (known l.pass).end - (known l.pass).low
