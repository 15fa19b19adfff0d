use Rattle.search_info.specs.Passes.{IsLearnPassOf}
use Rattle.hash_tests.proofs.learners.counts_hits.Given as goal

abbrev pub invariant-loop : goal.invariant-loop
invariant-loop l = IsLearnPassOf l.learner l.pass
