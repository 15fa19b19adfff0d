use Rattle.std.proofs.Common.{arith}
use Rattle.std.proofs.lemmas.Grind.{common_steps}
use Rattle.learning.proofs.LearningLemmas.{worth_of_promise}
use Rattle.learning.proofs.build.is_worth.Goals as goal

pub returns-then-block-from : goal.returns-then-block-from
returns-then-block-from c =
    let rule = worth_of_promise c.args.info.now c.args.block.now c.args.rows (omega arith) (omega arith) in grind (arith, common_steps)

pub returns-else-block-from : goal.returns-else-block-from
returns-else-block-from c =
    let rule = worth_of_promise c.args.info.now c.args.block.now c.args.rows (omega arith) (omega arith) in grind (arith, common_steps)
