use Rattle.legal_law.proofs.LegalLemmas.{legal_is_sound}
use Rattle.legal_law.proofs.laws.legal_is_sound.Goals as goal

pub returns : goal.returns
returns c = legal_is_sound
