-- What a pass does while it holds the pool: it tries, it gives back partitions alone, and it says
-- nothing.
use Rattle.std.specs.Prelude.{ℕ, ◌≡◌, ◌≢◌, [], ◌∷◌, List}
use Rattle.std.specs.List.{AllByRecursion}
use Rattle.latch_law.specs.declared.knows.Reference.{Reference}
use Rattle.latch_law.specs.declared.knows.Refusal.{Refusal}
use Rattle.latch_law.specs.Rule.{Holds}
use Rattle.latch_law.specs.Views.{holding}
use Rattle.latch_space.specs.Has.{IsKnown}
use Rattle.latch_space.specs.Passes.{view, count}
use Rattle.tree_law.specs.TreeShape.{In}
use Rattle.hash_partition.specs.Part.{Part}
use Rattle.forest_law.specs.declared.objects.Frame.{Frame}
use Rattle.forest_law.specs.declared.objects.Pool.{Pool}
use Rattle.forest_law.specs.declared.objects.Object.{Object}
use Rattle.forest_law.specs.declared.objects.Object.TheVariants as object
use Rattle.forest_law.specs.Numbers.{pool_id, frame_id}
use Rattle.forest_world.specs.Held.{TreePass, shape_of_pass}
use Rattle.call_law.specs.Hands.{KnowsFrame}
use Rattle.call_law.specs.Spoken.{View}
use Rattle.call_law.specs.Trace.{Added}
use Rattle.buffer_pool.specs.AsTaken.{StaysTaken}
use Rattle.buffer_pool.specs.Calls.{Does}

-- some refused tries, and nothing else
abbrev pub tries_alone : List (Refusal Object) → Added
tries_alone fs = record { said = []; refused = fs; references = [] }

-- the pass has added refused tries alone, of no tree, and holds the rest of what it held, beside
-- the objects of these numbers
pub record Tries (p q : TreePass) (ks : List ℕ) : Type 0 where
  pub refused : List (Refusal Object)
  pub does : Does p q ks (tries_alone refused)

-- what was given back is a partition, and stands at another number than the pool
abbrev pub IsOfPart : Reference Object → Type 0
IsOfPart q = (part : Part) × (q.released ≡ object.Part part) × (q.object ≢ pool_id)

-- some refused tries and some references, and nothing else
abbrev pub tries_and_given : List (Refusal Object) → List (Reference Object) → Added
tries_and_given fs qs = record { said = []; refused = fs; references = qs }

-- the pass has added refused tries, and partitions given back, and nothing else, none of a tree; it
-- holds the rest of what it held, beside the objects of these numbers
pub record TriesGivingParts (p q : TreePass) (ks : List ℕ) : Type 0 where
  pub refused : List (Refusal Object)
  pub references : List (Reference Object)
  pub parts : AllByRecursion IsOfPart references
  pub does : Does p q ks (tries_and_given refused references)

-- one of these tries was of the object k
pub record IsTried (k : ℕ) (fs : List (Refusal Object)) : Type 0 where
  pub refusal : Refusal Object
  pub among : In refusal fs
  pub object : refusal.object ≡ k

-- the pool is held, which was taken as t and is known to be x
abbrev pub KnowsPool : View → Object → Pool → Type 0
KnowsPool v t x = Holds v pool_id (holding t (object.Pool x))

-- the pool and the block's frame are held, and all that is held is what it is known to be
pub record HoldsPoolAndFrame (p : TreePass) (b : ℕ) (t : Object) (x : Pool)
    (f : Frame) : Type 0 where
  pub known : IsKnown p
  pub pool : KnowsPool (view p) t x
  pub frame : KnowsFrame (view p) b f

-- the pool has become y and the block's frame g, and both are known so
pub record TurnsBoth (p : TreePass) (b : ℕ) (t : Object) (q : TreePass) (y : Pool)
    (g : Frame) : Type 0 where
  pub tries : Tries p q (pool_id ∷ frame_id (shape_of_pass p) b ∷ [])
  pub both : HoldsPoolAndFrame q b t y g
  pub taken : StaysTaken p q b g
  pub count : count q ≡ count p
