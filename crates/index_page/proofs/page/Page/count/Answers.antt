use Rattle.std.proofs.Common.{arith}
use Rattle.index_page.proofs.AppendLemmas.{rows_within_load}
use Rattle.index_page.proofs.page.Page.count.Goals as goal

pub overflow_cast-result : goal.overflow_cast-result
overflow_cast-result c = omega (arith, rows_within_load c.self.inside.rows, c.self.invariant.fits, c.len.ensures)
