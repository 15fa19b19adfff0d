use Rattle.std.proofs.Common.{take}
use Rattle.change_log.specs.Merge.{note_lists, AreSpread}
use Rattle.change_log.proofs.merging.spread.Given as goal

abbrev pub invariant-loop-log : goal.invariant-loop-log
invariant-loop-log l = AreSpread l.indexes (take l.log-index l.logs) (note_lists l.lists.items)
