-- Room that is made on a leaf.
use Rattle.std.specs.Prelude.{ℕ, ◌≡◌, ◌+◌, ◌≤◌, ◌∷◌, List, []}
use Rattle.key_tuple.specs.Order.{FieldList}
use Rattle.key_tuple.specs.declared.mode.Mode.TheVariants as mode
use Rattle.latch_law.specs.Whole.{reference}
use Rattle.latch_space.specs.Has.{IsKnown}
use Rattle.latch_space.specs.Passes.{view, count}
use Rattle.index_page.specs.declared.TheConstants.{PAGE_ROOM}
use Rattle.index_page.specs.Loads.{load_of}
use Rattle.tree_law.specs.TreeShape.{In}
use Rattle.index_law.specs.Answers.{Where}
use Rattle.index_law.specs.Shape.{Shape}
use Rattle.forest_law.specs.declared.objects.Frame.{Frame}
use Rattle.forest_law.specs.declared.objects.Pool.{Pool}
use Rattle.forest_law.specs.declared.objects.Object.{Object}
use Rattle.forest_law.specs.declared.objects.Object.TheVariants as object
use Rattle.forest_law.specs.Numbers.{frame_id}
use Rattle.forest_world.specs.Held.{TreePass, shape_of_pass}
use Rattle.call_law.specs.Hands.{HoldsTheRest}
use Rattle.call_law.specs.Spoken.{spoken}
use Rattle.call_law.specs.Trace.{Added, Adds, AreGivenAt, fulls}
use Rattle.buffer_pool.specs.NewPages.{HasNoneFree, HeldPool}
use Rattle.tree_descent.specs.Leaves.{cut_in, IsPageFor}

-- the pass has added this, the index's tree perhaps among it, and holds what it held
pub record Grows (p q : TreePass) (added : Added) : Type 0 where
  pub adds : Adds (view p) (view q) added
  pub rest : HoldsTheRest (view p) (view q) []
  pub known : IsKnown q
  pub count : count q ≡ count p

-- the same, and it has said nothing
pub record GrowsSilently (p q : TreePass) : Type 0 where
  pub added : Added
  pub grows : Grows p q added
  pub silent : added.said ≡ []

-- one of the references is of the leaf that has the key's position, with so much room
pub record HadRoom (shape : Shape) (i : ℕ) (key : FieldList) (need : ℕ) (added : Added) : Type 0
  where
    pub block : ℕ
    pub taken : Object
    pub leaf : Frame
    pub among : In (reference (frame_id shape block) taken (object.Frame leaf)) added.references
    pub page : IsPageFor shape leaf i 0 (cut_in shape i mode.Ge key)
    pub room : load_of page.is.page.rows + need ≤ PAGE_ROOM

-- the leaf that has the key's position had so much room when it was given back
pub record MakesRoom (p : TreePass) (i : ℕ) (key : FieldList) (need : ℕ) (q : TreePass) : Type 0
  where
    pub silently : GrowsSilently p q
    pub room : HadRoom (shape_of_pass p) i key need silently.added

-- no page number was free in the pool, as it was held, which was said once
pub record FindsNoRoom (p : TreePass) (i : ℕ) (q : TreePass) : Type 0 where
  pub added : Added
  pub grows : Grows p q added
  pub given : AreGivenAt i (view p).low added.said
  pub silent : spoken added.said ≡ []
  pub places : List Where
  pub full : fulls added.said ≡ places ∷ []
  pub pool : Pool
  pub held : HeldPool added pool
  pub none : HasNoneFree pool
