use Rattle.std.proofs.Common.{ℕ}
use Rattle.latch_space.specs.Spaces.{IsPassOf}
use Rattle.pair_world.specs.Held.{HoldsFirst}
use Rattle.tree_tests.proofs.pair.raise_thrice.Given as goal

-- the pass is one of the space, and holds the first number
abbrev pub invariant-loop-is_ahead : goal.invariant-loop-is_ahead
invariant-loop-is_ahead g l = IsPassOf l.space l.pass × ((a : ℕ) × HoldsFirst l.pass a)
