use Rattle.index_page.proofs.RefusalLemmas.{none_is_scattered}
use Rattle.index_page.proofs.laws.none_is_scattered.Goals as goal

pub returns : goal.returns
returns c = none_is_scattered
