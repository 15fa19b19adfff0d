use Rattle.std.proofs.Common.{◌≡◌, replicate, [], vec_capacity}
use Rattle.change_log.specs.Merge.{note_lists}
use Rattle.change_log.proofs.merging.empty_lists.Given as goal

abbrev pub invariant-loop : goal.invariant-loop
invariant-loop l = (note_lists l.lists.items ≡ replicate l.counter []) × (vec_capacity l.lists ≡ l.count)
