-- One way down, from the root to the leaf or to where it ends in vain.
use Rattle.std.specs.Prelude.{ℕ, suc, ◌≡◌, ◌+◌, ◌<◌, Bool, Option, Some, None, [], ◌∷◌}
use Rattle.key_tuple.specs.KeyPlace.{KeyPlace}
use Rattle.latch_space.specs.Passes.{view, count}
use Rattle.tree_law.specs.Pages.{IsOrderly}
use Rattle.index_law.specs.Shape.{Shape}
use Rattle.forest_law.specs.declared.objects.Frame.{Frame}
use Rattle.forest_law.specs.Numbers.{frame_id}
use Rattle.forest_law.specs.State.{page_within, fields_for}
use Rattle.forest_world.specs.Held.{TreePass, shape_of_pass}
use Rattle.call_law.specs.Hands.{KnowsFrame}
use Rattle.call_law.specs.Spoken.{View}
use Rattle.call_law.specs.Trace.{frame_references}
use Rattle.buffer_pool.specs.AsTaken.{AreAsTaken, HoldsAsTaken, GaveAsTaken}
use Rattle.buffer_pool.specs.Calls.{DoesSilently}
use Rattle.buffer_pool.specs.Hands.{LacksFrame}
use Rattle.buffer_pool.specs.Pages.{HasTreePage, PointsAt}
use Rattle.tree_descent.specs.Leaves.{HasCutWithin}
use Rattle.tree_descent.specs.Paths.{LeadFromRoot}

-- the pass holds a page of the trees, of this index and level, in order by itself
pub record HoldsPage (v : View) (b i level : ℕ) : Type 0 where
  pub frame : Frame
  pub knows : KnowsFrame v b frame
  pub is : HasTreePage frame i level
  pub order : IsOrderly (fields_for v.terms.shape) (page_within is.page frame.low frame.high)

-- the same on some level
abbrev pub HoldsSome : View → (b i : ℕ) → Type 0
HoldsSome v b i = (level : ℕ) × HoldsPage v b i level

-- the same on some level above the leaves
abbrev pub HoldsAbove : View → (b i : ℕ) → Type 0
HoldsAbove v b i = (level : ℕ) × HoldsPage v b i (suc level)

-- the frame has a page of the trees, of this index and level, in order by itself; above the
-- leaves its rows point to numbers of pages
pub record IsOnWay (shape : Shape) (f : Frame) (i level : ℕ) : Type 0 where
  pub is : HasTreePage f i level
  pub order : IsOrderly (fields_for shape) (page_within is.page f.low f.high)
  pub below : 0 < level → (n : ℕ) → PointsAt is.page.rows n → n < shape.pages

-- a way down has come to the page in the block's frame, and the references of frames that were
-- added are the path to it; each frame that kept its page was given back, or is held, as it was taken
pub record GoesDown (p : TreePass) (cut : KeyPlace → Bool) (i level b : ℕ)
    (q : TreePass) : Type 0 where
  pub silently : DoesSilently p q (frame_id (shape_of_pass p) b ∷ [])
  pub as_taken : AreAsTaken silently.added.references
  pub lacked : LacksFrame p b
  pub frame : Frame
  pub knows : KnowsFrame (view q) b frame
  pub held_as_taken : HoldsAsTaken (view q) b
  pub page : IsOnWay (shape_of_pass p) frame i level
  pub leads : LeadFromRoot (shape_of_pass p) cut i level page.is.page.head.number
      (frame_references silently.added.references)
  pub count : count q ≡ count p + 1

-- the same before the page is taken: nothing of the way is held, and its path leads to the page
pub record LooksFor (p : TreePass) (cut : KeyPlace → Bool) (i level n : ℕ)
    (q : TreePass) : Type 0 where
  pub silently : DoesSilently p q []
  pub as_taken : AreAsTaken silently.added.references
  pub leads : LeadFromRoot (shape_of_pass p) cut i level n
      (frame_references silently.added.references)
  pub below : n < (shape_of_pass p).pages
  pub count : count q ≡ count p

-- the way has come to the leaf whose bounds have the cut
pub record ComesDown (p : TreePass) (cut : KeyPlace → Bool) (i b : ℕ) (q : TreePass) : Type 0 where
  pub way : GoesDown p cut i 0 b q
  pub within : HasCutWithin way.frame cut

-- the way has come to such a leaf, or was in vain
abbrev pub TriesDown : TreePass → (KeyPlace → Bool) → ℕ → Option ℕ → TreePass → Type 0
TriesDown p cut i (Some b) q = ComesDown p cut i b q
TriesDown p cut i None q = GaveAsTaken p q
