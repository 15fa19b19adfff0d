use Rattle.report_laws.proofs.PlainLemmas.{spells_one_formed_report}
use Rattle.report_laws.proofs.spelling.bytes_spell_one_formed_report.Goals as goal

pub returns : goal.returns
returns c = spells_one_formed_report
