use Rattle.report_forms.proofs.ReportLemmas.{reports_are_read}
use Rattle.report_forms.proofs.laws.reports_are_read.Goals as goal

pub returns : goal.returns
returns c = reports_are_read
