-- The first place cuts, and where there is none nothing is cut.
use Rattle.script.proofs.Cuts.{cut_parts, cut_nowhere}
use Rattle.script.proofs.pieces.cut.Goals as goal

pub returns-in_err-at : goal.returns-in_err-at
returns-in_err-at c = rw c.from_residual.ensures (cut_nowhere c.args.value c.args.bytes.now c.in_err-at.ensures)

pub returns : goal.returns
returns c = cut_parts c.args.value c.args.bytes.now c.in_ok-at.at c.in_ok-at.ensures.0 c.in_ok-at.ensures.1
