use Rattle.search_info.specs.Passes.{IsLearnPassOf}
use Rattle.hash_tests.proofs.learners.events.Given as goal

abbrev pub invariant-loop-i : goal.invariant-loop-i
invariant-loop-i l = IsLearnPassOf l.learner l.pass
