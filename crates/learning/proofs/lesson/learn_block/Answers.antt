use Rattle.learning.proofs.LearningLemmas.{block_advised, block_helped}
use Rattle.learning.proofs.lesson.learn_block.Goals as goal

pub returns-else-helped : goal.returns-else-helped
returns-else-helped c =
    block_advised c.args.info.now c.wait.result c.review-new.result c.args.descent.now
    c.wait.ensures c.review-new.ensures c.if-waits.ensures c.if-helped.ensures

pub returns-then-helped : goal.returns-then-helped
returns-then-helped c =
    block_helped c.args.info.now c.wait.result c.review-new.result c.args.descent.now c.one_more_help.result
    c.wait.ensures c.review-new.ensures c.if-waits.ensures c.if-helped.ensures c.one_more_help.ensures
