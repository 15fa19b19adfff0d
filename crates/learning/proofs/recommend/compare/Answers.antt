use Rattle.learning.proofs.recommend.compare.Goals as goal

pub returns : goal.returns
returns c = rw (c.then.ensures, c.cmp.ensures, c.cmp-2.ensures)
