use Rattle.index_page.proofs.KeyLemmas.{tells_key}
use Rattle.index_page.proofs.laws.spots_tell_keys.Goals as goal

pub returns : goal.returns
returns c = λ page key spot order long some found. tells_key page key spot order long found some
