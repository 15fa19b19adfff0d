use Rattle.script.proofs.LaneFacts.{spelled_lane}
use Rattle.script_laws.proofs.lanes.lines_can_be_worked.Goals as goal

pub returns : goal.returns
returns c schema bytes lines few h = spelled_lane schema bytes lines few h
