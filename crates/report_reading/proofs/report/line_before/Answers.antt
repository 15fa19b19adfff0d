-- There are no more lines than bytes.
use Rattle.std.proofs.Common.{length, ap, arith}
use Rattle.report_reading.proofs.LineLemmas.{few_lines}
use Rattle.report_reading.proofs.report.line_before.Goals as goal

pub overflow_cast-result : goal.overflow_cast-result
overflow_cast-result c = omega (arith, few_lines c.args.report.now, ap length c.new.ensures, c.count.ensures, c.saturating_sub.ensures, c.requires)

pub overflow_add-result : goal.overflow_add-result
overflow_add-result c = omega (arith, few_lines c.args.report.now, ap length c.new.ensures, c.count.ensures, c.saturating_sub.ensures, c.requires)
