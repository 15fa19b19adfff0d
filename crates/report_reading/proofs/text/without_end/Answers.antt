use Rattle.report_reading.proofs.LineLemmas.{front_of}
use Rattle.report_reading.proofs.text.without_end.Goals as goal

pub returns-in-len1-up : goal.returns-in-len1-up
returns-in-len1-up c = front_of c.args.line.now
