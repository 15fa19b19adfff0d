use Rattle.std.proofs.Common.{refl, arith}
use Rattle.script.specs.Lane.{line_meaning, lane_of}
use Rattle.script_laws.proofs.samples.five_fields_are_read.Goals as goal

pub returns : goal.returns
unfolding line_meaning lane_of
returns c = record { lane = refl; too_many = omega arith }
