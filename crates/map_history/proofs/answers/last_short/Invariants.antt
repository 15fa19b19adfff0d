use Rattle.std.proofs.Common.{◌≡◌, map, length}
use Rattle.key_tuple.specs.KeyPlace.{cut_of}
use Rattle.map_history.specs.Pairs.{pairs, pair_of}
use Rattle.map_history.specs.Reply.{last_before}
use Rattle.map_history.proofs.answers.last_short.Given as goal

-- the last row that doesn't pass is among those that are left
abbrev pub invariant-loop-key : goal.invariant-loop-key
invariant-loop-key l = last_before (cut_of l.mode l.tuple.fields) (pairs l.map) ≡ last_before (cut_of l.mode l.tuple.fields) (map pair_of l.rows)

abbrev pub decreases-loop-key : goal.decreases-loop-key
decreases-loop-key l = length l.rows
