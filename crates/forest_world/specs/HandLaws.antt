-- What is in hand makes the steps that the law asks for.
use Rattle.std.specs.Prelude.{ℕ, List}
use Rattle.latch_space.specs.Passes.{values, known_values, IsWhole}
use Rattle.forest_law.specs.declared.objects.Pool.{Pool}
use Rattle.forest_law.specs.declared.objects.Object.{Object}
use Rattle.forest_law.specs.Steps.{InHand, FrameStep, TreeStep, Rests, MakeSteps}
use Rattle.forest_law.specs.PoolSteps.{PoolStep}
use Rattle.forest_world.specs.Held.{TreePass, shape_of_pass, RestsBeyond, IsKnownBeyond, HandSteps, HandPool}

-- steps in hand are steps of what the pass knows to what it holds, and nothing is taken out
pub record StepsInHand (p : TreePass) (frames : List FrameStep)
    (trees : List TreeStep) : Type 0 where
  pub make : MakeSteps (shape_of_pass p) (known_values p) (values p) frames trees
  pub whole : IsWhole p

-- so it is of each pass
abbrev pub HandsMakeSteps : Type 0
HandsMakeSteps =
    (p : TreePass) (frames : List FrameStep) (trees : List TreeStep) → HandSteps p frames trees
    → StepsInHand p frames trees

-- a change of the pool in hand is one of what the pass knows, and nothing is taken out
pub record PoolInHand (p : TreePass) (number : ℕ) (old new : Pool) (hand : InHand) : Type 0 where
  pub step : PoolStep (shape_of_pass p) (known_values p) (values p) number hand old new
  pub whole : IsWhole p

-- so it is of each pass
abbrev pub HandsChangeThePool : Type 0
HandsChangeThePool =
    (p : TreePass) (number : ℕ) (old new : Pool) (hand : InHand)
    → HandPool p number old new hand → PoolInHand p number old new hand

-- an object that is what it was is at rest, and so all is that is known
pub record KnownIsAtRest : Type 0 where
  pub itself : (x : Object) → Rests x x
  pub beyond : (p : TreePass) (ks : List ℕ) → IsKnownBeyond p ks → RestsBeyond p ks
