use Rattle.learning.proofs.WordLemmas.{word_tells}
use Rattle.learning.proofs.law.words_tell_infos.Goals as goal

pub returns : goal.returns
returns c = word_tells
