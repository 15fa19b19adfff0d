use Rattle.std.proofs.Common.{arith}
use Rattle.std.proofs.lemmas.Grind.{common_steps}
use Rattle.tree_shrinking.proofs.pairs.are_to_join.Goals as goal

pub returns-then-left-most : goal.returns-then-left-most
returns-then-left-most c = grind (arith, common_steps)
