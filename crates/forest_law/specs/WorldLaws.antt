-- The six laws that a space asks of its world.
use Rattle.std.specs.Prelude.{◌≡◌, ℕ, ◌+◌, ◌<◌}
use mathlib.Core.Option.{some}
use lib.ListN.{get_elem?}
use Rattle.latch_law.specs.declared.knows.Reference.{Reference}
use Rattle.latch_law.specs.Whole.{IsFree, IsHeldBy, latched, reference}
use Rattle.latch_law.specs.Moves.{Moves, Next}
use Rattle.index_law.specs.Answers.{Saying}
use Rattle.forest_law.specs.declared.objects.Object.{Object}
use Rattle.forest_law.specs.State.{ForestState}
use Rattle.forest_law.specs.Law.{IsLawful, MayFollow}
use Rattle.forest_law.specs.Outside.{MayGoBack}
use Rattle.index_law.specs.Rightness.{IsRight}
use Rattle.forest_law.specs.References.{IsReference}

-- a lawful state stays lawful when a free object is taken
abbrev pub TakesStayLawful : Type 0
TakesStayLawful =
    (w : ForestState) (k name : ℕ) → IsLawful w → IsFree w k → name < w.passes
    → IsLawful (latched w k (name + 1))

-- a lawful state stays lawful when an object is given back that may be
abbrev pub ReleasesStayLawful : Type 0
ReleasesStayLawful =
    (w : ForestState) (k : ℕ) (x : Object) → IsLawful w → get_elem? w.objects k ≡ some x
    → MayGoBack x → IsLawful (latched w k 0)

-- a lawful state stays lawful when a pass makes a step that follows
abbrev pub StepsStayLawful : Type 0
StepsStayLawful =
    (name : ℕ) (w w' : ForestState) → IsLawful w → name < w.passes
    → Moves IsRight IsReference MayFollow name w w' → IsLawful w'

-- what is right at a point stays right there in each next state
abbrev pub AnswersStayRight : Type 0
AnswersStayRight =
    (name : ℕ) (w w' : ForestState) → IsLawful w → IsLawful w'
    → Next IsRight IsReference MayFollow name w w' → (i p : ℕ) (a : Saying)
    → IsRight w i p a → IsRight w' i p a

-- what is known of a reference: it is so right after a take, stays so in each next state, and goes
-- on to be so of what the holder makes of the object
pub record ReferencesLast : Type 0 where
  pub stay : (name : ℕ) (w w' : ForestState) → IsLawful w → IsLawful w'
      → Next IsRight IsReference MayFollow name w w' → (q : Reference Object)
      → IsReference w q → IsReference w' q
  pub begin : (w : ForestState) (k name : ℕ) (x : Object) → IsLawful w → IsFree w k
      → get_elem? w.objects k ≡ some x → IsReference (latched w k (name + 1)) (reference k x x)
  pub held : (name : ℕ) (w w' : ForestState) → IsLawful w → IsLawful w'
      → Next IsRight IsReference MayFollow name w w' → (k : ℕ) (t x y : Object)
      → IsHeldBy w k name → get_elem? w.objects k ≡ some x → get_elem? w'.objects k ≡ some y
      → IsReference w (reference k t x) → IsReference w' (reference k t y)
