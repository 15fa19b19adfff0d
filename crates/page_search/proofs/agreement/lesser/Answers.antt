use Rattle.std.proofs.Common.{arith}
use Rattle.page_search.proofs.LesserLemmas.{low_is_lesser, up_is_lesser}
use Rattle.page_search.proofs.agreement.lesser.Goals as goal

pub returns-then-low-up : goal.returns-then-low-up
returns-then-low-up c = low_is_lesser c.args.low c.args.up (omega arith)

pub returns-else-low-up : goal.returns-else-low-up
returns-else-low-up c = up_is_lesser c.args.low c.args.up (omega arith)
