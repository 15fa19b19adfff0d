use Rattle.std.proofs.Common.{take, Ok}
use Rattle.std.specs.List.{flat_map}
use Rattle.report_print.specs.Prints.{PrintsTo}
use Rattle.report_print.proofs.lanes.put_answers.Given as goal

-- the answers so far were put
abbrev pub invariant-loop-i : goal.invariant-loop-i
invariant-loop-i g l = PrintsTo g.K.Sink l.fn.sink l.sink (flat_map (λ text. text) (take l.i l.answers)) (Ok tt)
