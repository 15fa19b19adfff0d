use Rattle.page_mirror.proofs.HeadLemmas.{next_read}
use Rattle.page_mirror.proofs.steps.next_of.Goals as goal

pub returns : goal.returns
returns c = λ m h r. next_read h r c.get_next.ensures
