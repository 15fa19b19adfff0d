-- Objects in hand that become others, while nothing more is known.
use Rattle.std.specs.Prelude.{ℕ, ◌≡◌, ◌≢◌, List}
use Rattle.std.specs.List.{AllByRecursion}
use lib.ListN.{get_elem?}
use Rattle.latch_space.specs.Has.{IsKnown}
use Rattle.latch_space.specs.Passes.{view, values, count}
use Rattle.forest_world.specs.Held.{TreePass}

-- what is in hand, but for the objects of these numbers, is as before, and nothing more is known
pub record Remakes (p q : TreePass) (ks : List ℕ) : Type 0 where
  pub same_view : view q ≡ view p
  pub others : (k : ℕ) → AllByRecursion (λ (j : ℕ). k ≢ j) ks
      → get_elem? (values q) k ≡ get_elem? (values p) k
  pub same_count : count q ≡ count p

-- each object in hand is what it is known to be, and nothing more is known
pub record IsAsBefore (p q : TreePass) : Type 0 where
  pub same_view : view q ≡ view p
  pub known : IsKnown q
  pub same_count : count q ≡ count p
