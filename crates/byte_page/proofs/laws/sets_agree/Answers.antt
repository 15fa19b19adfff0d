use Rattle.byte_page.proofs.AgreeLemmas.{sets_agree}
use Rattle.byte_page.proofs.laws.sets_agree.Goals as goal

pub returns : goal.returns
returns c = sets_agree
