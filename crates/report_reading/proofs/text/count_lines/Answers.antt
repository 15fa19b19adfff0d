-- There are no more lines than bytes.
use Rattle.std.proofs.Common.{length, ap, arith}
use Rattle.report_reading.proofs.LineLemmas.{few_lines}
use Rattle.report_reading.proofs.text.count_lines.Goals as goal

pub overflow_add-count : goal.overflow_add-count
overflow_add-count c = omega (arith, c.lines.invariant, few_lines c.args.bytes.now, ap length c.in-Some.ensures)
