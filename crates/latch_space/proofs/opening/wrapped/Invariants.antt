use Rattle.std.proofs.Common.{◌≡◌, ◌≤◌, ◌++◌, length, map, Some, vec_capacity}
use Rattle.std.specs.Vec.Iter.{into_iter_items, into_iter_len}
use Rattle.latch_space.proofs.opening.wrapped.Given as goal

-- the objects so far are in their boxes, and the others are left, with room for them
abbrev pub invariant-loop-object : goal.invariant-loop-object
invariant-loop-object g l = record {
  rest : l.yielded ++ into_iter_items l.object-iterator ≡ l.fn.objects.items;
  count : into_iter_len l.object-iterator ≡ length (into_iter_items l.object-iterator);
  boxed : l.slots.items ≡ map Some l.yielded;
  room : length l.fn.objects.items ≤ vec_capacity l.slots;
}
