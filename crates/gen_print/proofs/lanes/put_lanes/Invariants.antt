use Rattle.std.proofs.Common.{take, Ok}
use Rattle.std.specs.List.{enumerate_from, flat_map}
use Rattle.report_print.specs.Prints.{PrintsTo}
use Rattle.gen_print.specs.Texts.{replies_line}
use Rattle.gen_print.proofs.lanes.put_lanes.Given as goal

-- the lanes so far were put
abbrev pub invariant-loop-i : goal.invariant-loop-i
invariant-loop-i g l = PrintsTo g.K.Sink l.fn.sink l.sink (flat_map replies_line (take l.i (enumerate_from 1 l.replies))) (Ok tt)
