use Rattle.std.proofs.Common.{take, map}
use Rattle.change_log.specs.Log.{note_of}
use Rattle.change_log.specs.Merge.{note_lists, Spreads}
use Rattle.change_log.proofs.lane_log.LaneLog.spread.Given as goal

abbrev pub invariant-loop-change : goal.invariant-loop-change
invariant-loop-change l = Spreads (map note_of (take l.change-index l.change-items)) (note_lists l.initial.lists.items) (note_lists l.lists.items)
