use Rattle.std.proofs.Common.{refl}
use Rattle.lane_threads.proofs.readying.ready.Goals as goal

pub returns : goal.returns
returns c = record { lane = _; ready = refl; engine_is = refl; pass_is = refl; lines_are = refl }
