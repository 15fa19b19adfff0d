use Rattle.report_forms.proofs.AnswerLemmas.{answers_are_read}
use Rattle.report_forms.proofs.laws.answers_are_read.Goals as goal

pub returns : goal.returns
returns c = answers_are_read
