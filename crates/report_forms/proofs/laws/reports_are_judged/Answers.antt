use Rattle.report_forms.proofs.ReportLemmas.{reports_are_judged}
use Rattle.report_forms.proofs.laws.reports_are_judged.Goals as goal

pub returns : goal.returns
returns c = reports_are_judged
