-- The leaf beside a leaf that is held.
use Rattle.std.specs.Prelude.{ℕ, ◌≡◌, ◌≢◌, ◌+◌, Some, None, [], ◌∷◌}
use Rattle.latch_space.specs.Passes.{view, count}
use Rattle.tree_law.specs.Pages.{IsOrderly}
use Rattle.index_law.specs.Shape.{Shape}
use Rattle.forest_law.specs.declared.objects.Frame.{Frame}
use Rattle.forest_law.specs.Numbers.{frame_id}
use Rattle.forest_law.specs.State.{page_within, fields_for}
use Rattle.forest_world.specs.Held.{TreePass, shape_of_pass}
use Rattle.call_law.specs.Hands.{KnowsFrame}
use Rattle.call_law.specs.Trace.{frame_references}
use Rattle.buffer_pool.specs.AsTaken.{HoldsAsTaken}
use Rattle.buffer_pool.specs.Calls.{DoesSilently}
use Rattle.buffer_pool.specs.Hands.{LacksFrame}
use Rattle.buffer_pool.specs.Pages.{HasTreePage, RefusesPage}
use Rattle.tree_descent.specs.Ways.{HoldsPage}
use Rattle.tree_neighbours.specs.declared.beside.Beside.{Beside}
use Rattle.tree_neighbours.specs.declared.beside.Beside.TheVariants.{AtEnd, Held, Busy}
use Rattle.tree_neighbours.specs.declared.side.Side.{Side}
use Rattle.tree_neighbours.specs.declared.side.Side.TheVariants.{Left}
use Rattle.tree_neighbours.specs.Sides.{Meets, page_on}

-- the block m, another one than b, has the leaf that stands beside the one of the frame f on this
-- side: of the same index, in order by itself, with bounds that meet those of f
pub record IsLeafBeside (shape : Shape) (side : Side) (b i : ℕ) (f : Frame) (m : ℕ)
    (g : Frame) : Type 0 where
  pub is : HasTreePage g i 0
  pub order : IsOrderly (fields_for shape) (page_within is.page g.low g.high)
  pub other : m ≢ b
  pub meets : Meets side f g

-- the leaf that is held in the block b is the last one on this side, and nothing was done
pub record IsLastOn (p : TreePass) (b i : ℕ) (side : Side) (q : TreePass) : Type 0 where
  pub holds : HoldsPage (view p) b i 0
  pub last : page_on side holds.is.page ≡ None
  pub same : q ≡ p

-- the leaf to which the one in the block b leads on this side is held besides, in the frame of the
-- block m, as it was taken if the frame had it then, and no frame was given back
pub record TakesBeside (p : TreePass) (b i : ℕ) (side : Side) (m : ℕ) (q : TreePass) : Type 0 where
  pub silently : DoesSilently p q (frame_id (shape_of_pass p) m ∷ [])
  pub none : frame_references silently.added.references ≡ []
  pub lacked : LacksFrame p m
  pub holds : HoldsPage (view p) b i 0
  pub frame : Frame
  pub knows : KnowsFrame (view q) m frame
  pub held_as_taken : HoldsAsTaken (view q) m
  pub beside : IsLeafBeside (shape_of_pass p) side b i holds.frame m frame
  pub leads : page_on side holds.is.page ≡ Some beside.is.page.head.number
  pub count : count q ≡ count p + 1

-- the frame of the leaf to which the one in the block b leads to the left was another pass's at the
-- one try
pub record IsBusyOn (p : TreePass) (b i : ℕ) (side : Side) (q : TreePass) : Type 0 where
  pub left : side ≡ Left
  pub holds : HoldsPage (view p) b i 0
  pub page : ℕ
  pub leads : page_on side holds.is.page ≡ Some page
  pub refused : RefusesPage p page q

-- what stands on this side of the leaf in the block b is told, and held where it is a leaf that
-- could be taken
abbrev pub TellsBeside : TreePass → (b i : ℕ) → Side → Beside → TreePass → Type 0
TellsBeside p b i side AtEnd q = IsLastOn p b i side q
TellsBeside p b i side (Held m) q = TakesBeside p b i side m q
TellsBeside p b i side Busy q = IsBusyOn p b i side q
