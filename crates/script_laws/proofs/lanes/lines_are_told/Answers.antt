use Rattle.script_laws.proofs.NumberLemmas.{lines_are_told}
use Rattle.script_laws.proofs.lanes.lines_are_told.Goals as goal

pub returns : goal.returns
returns c = lines_are_told
