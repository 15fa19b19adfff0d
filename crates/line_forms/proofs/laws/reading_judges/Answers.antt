use Rattle.line_forms.proofs.ReadingLemmas.{reading_judges}
use Rattle.line_forms.proofs.laws.reading_judges.Goals as goal

pub returns : goal.returns
returns c = reading_judges
