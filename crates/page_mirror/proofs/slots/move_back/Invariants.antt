use Rattle.page_mirror.specs.Slots.{MovesBack}
use Rattle.page_mirror.proofs.slots.move_back.Given as goal

abbrev pub invariant-loop-s : goal.invariant-loop-s
invariant-loop-s l = MovesBack l.initial.page l.page l.slot l.s
