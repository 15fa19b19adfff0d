use Rattle.report_print.proofs.SpellLemmas.{report_spelled}
use Rattle.report_print.proofs.laws.reports_are_spelled.Goals as goal

pub returns : goal.returns
returns c names answers changes entries counts long counts_long printed counted = report_spelled names answers changes entries counts long counts_long printed counted
