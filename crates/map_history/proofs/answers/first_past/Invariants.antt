use Rattle.std.proofs.Common.{◌≡◌, map}
use Rattle.key_tuple.specs.KeyPlace.{cut_of}
use Rattle.map_history.specs.Pairs.{pairs, pair_of}
use Rattle.map_history.specs.Reply.{first_after}
use Rattle.map_history.proofs.answers.first_past.Given as goal

-- the first row that passes is among those that are left
abbrev pub invariant-loop-key : goal.invariant-loop-key
invariant-loop-key l = first_after (cut_of l.mode l.tuple.fields) (pairs l.map) ≡ first_after (cut_of l.mode l.tuple.fields) (map pair_of l.key-iterator)
