use Rattle.std.proofs.Common.{map, take, Ok}
use Rattle.std.specs.List.{flat_map, zip}
use Rattle.std.specs.String.{string_bytes}
use Rattle.report_print.specs.Prints.{PrintsTo}
use Rattle.report_print.specs.Texts.{index_stats}
use Rattle.report_print.proofs.statistics.put_statistics.Given as goal

-- the statistics so far were put
abbrev pub invariant-loop-i : goal.invariant-loop-i
invariant-loop-i g l = PrintsTo g.K.Sink l.fn.sink l.sink (flat_map index_stats (take l.i (zip (map string_bytes l.names) l.counts))) (Ok tt)
