use Rattle.learning.proofs.lesson.waits.Goals as goal

pub returns : goal.returns
returns c = rw c.raised.ensures
