use Rattle.learning.proofs.lesson.learn.Goals as goal

pub returns-in-Hit : goal.returns-in-Hit
returns-in-Hit c = rw (c.in-Hit.is, c.raised.ensures)
