use Rattle.page_mirror.proofs.HeadLemmas.{link_written}
use Rattle.page_mirror.proofs.steps.lead.Goals as goal

pub returns : goal.returns
returns c = λ m p q r s. link_written p q r.is r.within s.within
    (rw (← r.placed) at c.put_next.ensures.kept) (rw (← r.placed, ← s.placed) at c.put_next.ensures.value)
