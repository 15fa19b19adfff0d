use Rattle.std.proofs.Common.{refl}
use Rattle.script.specs.Lane.{line_meaning, lane_of}
use Rattle.script.specs.Schema.{schema_line, schema_of}
use Rattle.script_laws.proofs.samples.two_lines_are_read.Goals as goal

pub returns : goal.returns
unfolding line_meaning lane_of schema_line schema_of
returns c = record { schema = refl; lane = refl }
