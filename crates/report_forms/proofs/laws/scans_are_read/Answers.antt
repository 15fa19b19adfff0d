use Rattle.report_forms.proofs.ScanLemmas.{scans_are_read}
use Rattle.report_forms.proofs.laws.scans_are_read.Goals as goal

pub returns : goal.returns
returns c = scans_are_read
