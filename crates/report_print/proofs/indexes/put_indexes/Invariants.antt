use Rattle.std.proofs.Common.{map, take, Ok}
use Rattle.std.specs.List.{flat_map, zip}
use Rattle.std.specs.String.{string_bytes}
use Rattle.change_log.specs.Merge.{note_lists}
use Rattle.report_print.specs.Prints.{PrintsTo}
use Rattle.report_print.specs.Texts.{index_text}
use Rattle.report_print.proofs.indexes.put_indexes.Given as goal

-- the indexes so far were put
abbrev pub invariant-loop-i : goal.invariant-loop-i
invariant-loop-i g l = PrintsTo g.K.Sink l.fn.sink l.sink (flat_map index_text (take l.i (zip (map string_bytes l.names) (note_lists l.changes)))) (Ok tt)
