-- What a call does to a pass in whose hand each object is what it is known to be.
use Rattle.std.specs.Prelude.{ℕ, ◌≡◌, ◌∷◌, List, []}
use Rattle.latch_space.specs.Has.{IsKnown}
use Rattle.latch_space.specs.Passes.{view, count}
use Rattle.forest_world.specs.Held.{TreePass, shape_of_pass}
use Rattle.call_law.specs.Hands.{HoldsTheRest}
use Rattle.call_law.specs.Spoken.{spoken}
use Rattle.call_law.specs.Trace.{Added, Adds, AreGivenAt, SparesTrees, fulls}
use Rattle.index_law.specs.Answers.{Where}

-- the pass has added this, no tree among it, and holds the rest of what it held, beside the objects
-- of these numbers
pub record Does (p q : TreePass) (ks : List ℕ) (added : Added) : Type 0 where
  pub adds : Adds (view p) (view q) added
  pub spares : SparesTrees (shape_of_pass p) added
  pub rest : HoldsTheRest (view p) (view q) ks
  pub known : IsKnown q

-- the same, and it has said nothing
pub record DoesSilently (p q : TreePass) (ks : List ℕ) : Type 0 where
  pub added : Added
  pub does : Does p q ks added
  pub silent : added.said ≡ []

-- the pass holds what it held, and has said nothing
pub record GetsNothing (p q : TreePass) : Type 0 where
  pub silently : DoesSilently p q []
  pub count : count q ≡ count p

-- the pass holds what it held, and has said at the list of the index that each page number was
-- used, once
pub record FindsFull (p : TreePass) (i : ℕ) (q : TreePass) : Type 0 where
  pub added : Added
  pub does : Does p q [] added
  pub given : AreGivenAt i (view p).low added.said
  pub silent : spoken added.said ≡ []
  pub places : List Where
  pub full : fulls added.said ≡ places ∷ []
  pub count : count q ≡ count p
