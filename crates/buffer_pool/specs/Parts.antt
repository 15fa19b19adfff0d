-- The partition of the index that a block is hashed for, held while the block's rows change.
use Rattle.std.specs.Prelude.{ℕ, ◌≡◌, ◌+◌, ◌<◌, ◌⊎◌, true, Option, Some, None, List, [], ◌∷◌}
use Rattle.std.specs.List.{AllByRecursion}
use Rattle.latch_law.specs.Rule.{Holds}
use Rattle.latch_law.specs.Views.{holding}
use Rattle.latch_law.specs.Whole.{reference}
use Rattle.latch_space.specs.Passes.{view, count}
use Rattle.hash_partition.specs.Part.{Part}
use Rattle.hash_law.specs.Blocks.{part_for}
use Rattle.index_page.specs.Page.{PageRows}
use Rattle.tree_law.specs.Pages.{is_own}
use Rattle.index_law.specs.Shape.{Shape}
use Rattle.forest_law.specs.declared.objects.Frame.{Frame}
use Rattle.forest_law.specs.declared.objects.Object.{Object}
use Rattle.forest_law.specs.declared.objects.Pool.{Pool}
use Rattle.forest_law.specs.declared.objects.Object.TheVariants as object
use Rattle.forest_law.specs.Numbers.{part_id, frame_id}
use Rattle.forest_law.specs.Hashed.{IsExactFor}
use Rattle.forest_world.specs.Held.{TreePass, shape_of_pass}
use Rattle.hash_maintain.specs.Leaves.{unhashed}
use Rattle.call_law.specs.Hands.{KnowsFrame, KnowsPart, LacksObject}
use Rattle.call_law.specs.Spoken.{View}
use Rattle.buffer_pool.specs.Calls.{DoesSilently}
use Rattle.buffer_pool.specs.Tries.{Tries, KnowsPool}
pub use Rattle.buffer_pool.specs.Tries.{IsOfPart}

-- the partition of the index that a block is hashed for, if it is
abbrev pub part_of_index : Shape → Option ℕ → Option ℕ
part_of_index shape None = None
part_of_index shape (Some index) = Some (part_for shape.parts index)

-- the number of a partition, if there is one
abbrev pub part_ids : Shape → Option ℕ → List ℕ
part_ids shape None = []
part_ids shape (Some k) = part_id shape k ∷ []

-- partition k is held besides, after some refused tries, and is exact of each block that is held, as
-- its frame is known
pub record HoldsPartToo (p : TreePass) (k : ℕ) (q : TreePass) : Type 0 where
  pub tries : Tries p q (part_id (shape_of_pass p) k ∷ [])
  pub part : Part
  pub knows : KnowsPart (view q) k part
  pub exact : (b : ℕ) (f : Frame) → KnowsFrame (view q) b f
      → IsExactFor (shape_of_pass q) k b part f
  pub count : count q ≡ count p + 1

-- so it is with the partition, if there is one; else the pass is as before
abbrev pub HoldsPartIf : TreePass → Option ℕ → TreePass → Type 0
HoldsPartIf p None q = q ≡ p
HoldsPartIf p (Some k) q = HoldsPartToo p k q

-- the partition, if there is one, is held
abbrev pub KnowsPartIf : View → Option ℕ → Type 0
KnowsPartIf v None = Unit {0}
KnowsPartIf v (Some k) = (k < v.terms.shape.parts) × (part : Part) × KnowsPart v k part

-- partition k went out as it was known, and one reference tells so
pub record GivesPartBack (p : TreePass) (k : ℕ) (q : TreePass) : Type 0 where
  pub silently : DoesSilently p q (part_id (shape_of_pass p) k ∷ [])
  pub untried : silently.added.refused ≡ []
  pub taken : Object
  pub part : Part
  pub knew : Holds (view p) (part_id (shape_of_pass p) k) (holding taken (object.Part part))
  pub one : silently.added.references
      ≡ reference (part_id (shape_of_pass p) k) taken (object.Part part) ∷ []
  pub lacks : LacksObject (view q) (part_id (shape_of_pass p) k)
  pub count : count q + 1 ≡ count p

-- so it is with the partition, if there is one; else the pass is as before
abbrev pub GivesPartIf : TreePass → Option ℕ → TreePass → Type 0
GivesPartIf p None q = q ≡ p
GivesPartIf p (Some k) q = GivesPartBack p k q

-- the frame's page, if it has one, is outside the trees
abbrev pub IsPageOutside : Frame → Type 0
IsPageOutside f =
    (page : PageRows) → f.page ≡ Some page → is_own page.head.number page.head.prev ≡ true

-- the frame's block may lose its nodes: the pool is held, so that its page may go to its image, or the
-- page is outside the trees
abbrev pub MayUnhash : View → Frame → Type 0
MayUnhash v f = ((t : Object) × (x : Pool) × KnowsPool v t x) ⊎ IsPageOutside f

-- the block's frame, which is held, is known to be as it was, but not hashed; partitions alone were
-- given back
pub record UnhashesBlock (p : TreePass) (b : ℕ) (q : TreePass) : Type 0 where
  pub silently : DoesSilently p q (frame_id (shape_of_pass p) b ∷ [])
  pub parts : AllByRecursion IsOfPart silently.added.references
  pub frame : (t : Object) (f : Frame)
      → Holds (view p) (frame_id (shape_of_pass p) b) (holding t (object.Frame f))
      → Holds (view q) (frame_id (shape_of_pass p) b) (holding t (object.Frame (unhashed f)))
  pub count : count q ≡ count p
