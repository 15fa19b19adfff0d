use Rattle.std.proofs.Common.{refl}
use Rattle.gen_law.proofs.drawing.first_lines_are_drawn.Goals as goal

pub returns : goal.returns
returns c = record { state = refl; drawn = refl; choice = refl; lines = refl }
