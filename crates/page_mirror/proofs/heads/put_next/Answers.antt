use Rattle.std.proofs.Common.{arith}
use Rattle.page_mirror.proofs.heads.put_next.Goals as goal

pub returns-clause-value : goal.returns-clause-value
returns-clause-value c = omega (arith, c.put_u16.ensures.value)
