use Rattle.std.proofs.Common.{refl, arith}
use Rattle.map_history.specs.Operation.{Get}
use Rattle.map_history.specs.Reply.{Absent}
use Rattle.report_examples.specs.Samples.{row_life, line, a_key}
use Rattle.map_history.specs.Report.{unlearnt}
use Rattle.report_examples.specs.Spoilt.{late_point}
use Rattle.report_examples.proofs.spoilt.late_point_is_illegal.Goals as goal

pub returns : goal.returns
returns c = λ sizes legal. omega (arith, (legal.answers 0 3 (line 4 (Get a_key)) Absent 3 unlearnt (record { line_there = (row_life, refl, refl); answer_there = (late_point, refl, refl) }) (λ e. cc)).within)
