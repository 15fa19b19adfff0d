use Rattle.std.proofs.Common.{◌≤◌}
use Rattle.page_mirror.specs.Slots.{MovesOn}
use Rattle.page_mirror.proofs.slots.move_on.Given as goal

abbrev pub invariant-loop-s : goal.invariant-loop-s
invariant-loop-s l = record { within : l.s ≤ l.count; low : l.slot ≤ l.s; moves : MovesOn l.initial.page l.page l.count l.s }

abbrev pub decreases-loop-s : goal.decreases-loop-s
decreases-loop-s l = l.s
