use Rattle.settings.proofs.sized.set_size.Goals as goal

pub returns-in-Parts : goal.returns-in-Parts
returns-in-Parts c = rw c.in-Parts.is
