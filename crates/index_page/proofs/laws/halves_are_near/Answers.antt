use Rattle.index_page.proofs.HalvesLemmas.{near_half}
use Rattle.index_page.proofs.laws.halves_are_near.Goals as goal

pub returns : goal.returns
returns c = near_half
