use Rattle.report_reading.proofs.RunLemmas.{read_runs_are_asked}
use Rattle.report_reading.proofs.laws.read_runs_are_asked.Goals as goal

pub returns : goal.returns
returns c = read_runs_are_asked
