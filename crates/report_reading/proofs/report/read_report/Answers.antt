use Rattle.report_reading.specs.Report.{run_asked}
use Rattle.report_reading.proofs.JudgedLemmas.{judged}
use Rattle.report_reading.proofs.report.read_report.Goals as goal

pub returns-clause-judged : goal.returns-clause-judged
returns-clause-judged c is = judged (run_asked c.args.schema.now c.args.lanes.now) c.args.schema.now.fields.items c.args.report.now c.read_bytes.result is c.read_bytes.ensures
