use Rattle.std.proofs.Common.{arith}
use Rattle.page_search.proofs.ByteLemmas.{skip_bytes, equal_within}
use Rattle.page_search.proofs.comparing.skip_fours.Goals as goal

pub overflow_add-at : goal.overflow_add-at
overflow_add-at c = omega (arith, c.loop-at.invariant, c.requires.short, equal_within c.args.left.now c.args.right.now)

pub loop-at-preserved : goal.loop-at-preserved
loop-at-preserved c =
    let more = skip_bytes c.args.left.now c.args.right.now c.loop-at.at c.loop-at.invariant in
    omega arith
