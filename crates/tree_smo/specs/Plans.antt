-- A split that is to be made, and what is made by it.
use Rattle.std.specs.Prelude.{ℕ, ◌≡◌, ◌+◌, Option, Some, None, List, [], ◌∷◌}
use Rattle.key_tuple.specs.Limits.{IsWithinLimits}
use Rattle.latch_space.specs.Passes.{view, count}
use Rattle.index_page.specs.Page.{PageRows, IsNeighbour}
use Rattle.index_law.specs.Shape.{Shape}
use Rattle.forest_law.specs.declared.objects.Frame.{Frame}
use Rattle.forest_law.specs.Numbers.{frame_id}
use Rattle.forest_law.specs.Outside.{HasNoOutside}
use Rattle.forest_world.specs.Held.{TreePass, shape_of_pass, HasFrame}
use Rattle.tree_restructure.specs.Cuts.{HalvesAt}
use Rattle.tree_restructure.specs.FrameCuts.{CutsFrame}
use Rattle.tree_restructure.specs.Links.{HasAPage, Relinks}
use Rattle.tree_restructure.specs.Pointers.{PutsPointer}
use Rattle.call_law.specs.Hands.{KnowsFrame}
use Rattle.call_law.specs.Spoken.{View}
use Rattle.buffer_pool.specs.Calls.{DoesSilently}
use Rattle.buffer_pool.specs.Hands.{LacksFrame}
use Rattle.buffer_pool.specs.NewPages.{HasOutsidePage}
use Rattle.buffer_pool.specs.Pages.{HasTreePage}
use Rattle.buffer_pool.specs.Parts.{part_ids, KnowsPartIf}
use Rattle.tree_smo.specs.declared.halves.SplitBlocks.{SplitBlocks}
use Rattle.tree_smo.specs.declared.halves.SplitHands.{SplitHands}
use Rattle.tree_smo.specs.declared.plans.SplitPlan.{SplitPlan}
use Rattle.tree_smo.specs.Halves.{KnowsHalves}
use Rattle.tree_smo.specs.PartHeld.{HoldsPartFor}
use Rattle.tree_smo.specs.Remakes.{Remakes}
use Rattle.tree_smo.specs.Splitting.{CanSplit}

-- the plan names the head of the frame's page and where that is cut
pub record IsPlanOf (f : Frame) (plan : SplitPlan) : Type 0 where
  pub head : (page : PageRows) → f.page ≡ Some page → plan.head ≡ page.head
  pub cut : (page : PageRows) → f.page ≡ Some page
      → HalvesAt page.rows plan.cut.place plan.cut.key.tuple
  pub limits : IsWithinLimits plan.cut.key.tuple
  pub next : IsNeighbour plan.head.next

-- the pass holds the page behind, which has this number, in the frame of this block, as one of the
-- trees of this index and level; or there is no such page
abbrev pub HoldsNext : View → (i level : ℕ) → (block number : Option ℕ) → Type 0
HoldsNext v i level None number = number ≡ None
HoldsNext v i level (Some b) number = (f : Frame) × KnowsFrame v b f × (t : HasTreePage f i level)
    × (number ≡ Some t.page.head.number)

-- the pass holds all that the planned split changes but the right half
pub record HoldsPlan (v : View) (plan : SplitPlan) : Type 0 where
  pub can : CanSplit v plan.parent plan.child plan.head.index
  pub is : IsPlanOf can.low plan
  pub next : HoldsNext v plan.head.index can.level plan.next plan.head.next

-- the blocks of the parent, of the page that is split and of its right half
abbrev pub blocks_of : SplitPlan → ℕ → SplitBlocks
blocks_of plan right = record { parent = plan.parent; child = plan.child; right = right }

-- the block of the page behind, where there is one
abbrev pub next_blocks : Option ℕ → List ℕ
next_blocks None = []
next_blocks (Some b) = b ∷ []

-- the number of its frame
abbrev pub next_ids : Shape → Option ℕ → List ℕ
next_ids shape None = []
next_ids shape (Some b) = frame_id shape b ∷ []

-- the numbers of the frames that a planned split changes
abbrev pub plan_ids : Shape → SplitPlan → ℕ → List ℕ
plan_ids shape plan right =
    frame_id shape plan.parent ∷ frame_id shape plan.child ∷ frame_id shape right
    ∷ next_ids shape plan.next

-- the numbers of the frame of the page behind and of the partition, where there are these
abbrev pub more_ids : Shape → (next part : Option ℕ) → List ℕ
more_ids shape None part = part_ids shape part
more_ids shape (Some b) part = frame_id shape b ∷ part_ids shape part

-- the numbers of all that a planned split changes while this partition is held
abbrev pub split_ids : Shape → SplitPlan → ℕ → Option ℕ → List ℕ
split_ids shape plan right part =
    frame_id shape plan.parent ∷ frame_id shape plan.child ∷ frame_id shape right
    ∷ more_ids shape plan.next part

-- the pass knows the frame of the page behind, where there is one, which is none outside the trees
abbrev pub KnowsNext : View → Option ℕ → Type 0
KnowsNext v None = Unit {0}
KnowsNext v (Some b) = (f : Frame) × KnowsFrame v b f × HasNoOutside f

-- it has it in hand, as it is known, with a page
abbrev pub HasNext : TreePass → Option ℕ → Type 0
HasNext p None = Unit {0}
HasNext p (Some b) = (f : Frame) × HasFrame p b f f × HasAPage f

-- the page in the block's frame, which is known to be f, has the page `right` as its left neighbour
pub record RelinksHeld (p : TreePass) (b right : ℕ) (f : Frame) (q : TreePass) : Type 0 where
  pub now : Frame
  pub has : HasFrame q b f now
  pub relinks : Relinks right f now
  pub remakes : Remakes p q (frame_id (shape_of_pass p) b ∷ [])

-- so it is with the page behind; where there is none, the pass is as before
abbrev pub RelinksBehind : TreePass → Option ℕ → (right : ℕ) → TreePass → Type 0
RelinksBehind p None right q = q ≡ p
RelinksBehind p (Some b) right q = (f : Frame) → HasFrame p b f f → RelinksHeld p b right f q

-- the upper half of the rows of the child, as it was known, is on the page in the right frame, and
-- the parent points to that
pub record SplitsSo (v v' : View) (plan : SplitPlan) (right : ℕ) : Type 0 where
  pub was : HoldsPlan v plan
  pub fresh : Frame
  pub number : ℕ
  pub blank : HasOutsidePage fresh plan.head number
  pub now : SplitHands
  pub knows : KnowsHalves v' (blocks_of plan right) now
  pub cuts : CutsFrame was.can.low now.left fresh now.right plan.cut.key.tuple
  pub pointer : PutsPointer was.can.below.page.head.number number was.can.up now.up
      plan.cut.key.tuple
  pub next : KnowsNext v' plan.next

-- the pass held the right frame too, and has made the split
pub record MakesSplit (p : TreePass) (plan : SplitPlan) (right : ℕ) (q : TreePass) : Type 0 where
  pub silently : DoesSilently p q (plan_ids (shape_of_pass p) plan right)
  pub splits : SplitsSo (view p) (view q) plan right
  pub count : count q ≡ count p

-- the pass held the partition of the child's index too, where the child is hashed, has made the split,
-- and still holds it
pub record MakesSplitBy (p : TreePass) (plan : SplitPlan) (right : ℕ) (part : Option ℕ)
    (q : TreePass) : Type 0 where
  pub silently : DoesSilently p q (split_ids (shape_of_pass p) plan right part)
  pub splits : SplitsSo (view p) (view q) plan right
  pub still : KnowsPartIf (view q) part
  pub count : count q ≡ count p

-- so it is, whichever that partition is
abbrev pub MakesSplitHeld : TreePass → SplitPlan → ℕ → TreePass → Type 0
MakesSplitHeld p plan right q = (part : Option ℕ) → HoldsPartFor (view p) plan.child part
    → MakesSplitBy p plan right part q

-- the right frame is held besides, and the split is made
pub record SplitsBeside (p : TreePass) (plan : SplitPlan) (right : ℕ) (q : TreePass) : Type 0 where
  pub silently : DoesSilently p q (plan_ids (shape_of_pass p) plan right)
  pub lacked : LacksFrame p right
  pub splits : SplitsSo (view p) (view q) plan right
  pub count : count q ≡ count p + 1
