use Rattle.settings.proofs.sized.size.Goals as goal

pub returns-in-Cells : goal.returns-in-Cells
returns-in-Cells c = rw c.in-Cells.is
