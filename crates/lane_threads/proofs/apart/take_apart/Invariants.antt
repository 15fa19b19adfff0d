use Rattle.std.proofs.Common.{◌≡◌, ◌++◌, length}
use Rattle.std.specs.Vec.Iter.{into_iter_items, into_iter_len}
use Rattle.lane_threads.specs.Doing.{ArePartsOf}
use Rattle.lane_threads.proofs.apart.take_apart.Given as goal

-- the doers so far are taken apart, and the others are left
abbrev pub invariant-loop-doer : goal.invariant-loop-doer
invariant-loop-doer l = record {
  rest : l.yielded ++ into_iter_items l.doer-iterator ≡ l.fn.doers.items;
  count : into_iter_len l.doer-iterator ≡ length (into_iter_items l.doer-iterator);
  parts : ArePartsOf l.yielded l.parts;
}
