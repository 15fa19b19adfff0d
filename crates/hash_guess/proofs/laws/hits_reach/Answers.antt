use Rattle.hash_guess.proofs.HitLemmas.{hits_reach}
use Rattle.hash_guess.proofs.laws.hits_reach.Goals as goal

pub returns : goal.returns
returns c = hits_reach
