use Rattle.std.proofs.Common.{map, take, Ok}
use Rattle.std.specs.List.{flat_map}
use Rattle.change_log.specs.Log.{note_of}
use Rattle.report_text.specs.Printed.{noted_text}
use Rattle.report_print.specs.Prints.{PrintsTo}
use Rattle.report_print.proofs.indexes.put_changes.Given as goal

-- the changes so far were put
abbrev pub invariant-loop-change : goal.invariant-loop-change
invariant-loop-change g l = PrintsTo g.K.Sink l.fn.sink l.sink (flat_map noted_text (take l.change-index (map note_of l.changes))) (Ok tt)
