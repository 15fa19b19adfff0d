-- A root that sinks to its only child, with its tree in hand.
use Rattle.std.specs.Prelude.{ℕ, suc, ◌≡◌, ◌≤◌, List, [], ◌∷◌}
use Rattle.latch_space.specs.Passes.{view, count}
use Rattle.index_page.specs.declared.TheConstants.{PAGE_ROOM}
use Rattle.index_page.specs.Loads.{load_of}
use Rattle.index_page.specs.Rows.{Row, Child}
use Rattle.forest_law.specs.declared.objects.Frame.{Frame}
use Rattle.forest_law.specs.declared.objects.Tree.{Tree}
use Rattle.forest_law.specs.Numbers.{tree_id, frame_id}
use Rattle.forest_world.specs.Held.{TreePass, shape_of_pass}
use Rattle.call_law.specs.Hands.{KnowsFrame, KnowsTree}
use Rattle.call_law.specs.Spoken.{View}
use Rattle.buffer_pool.specs.Calls.{DoesSilently}
use Rattle.buffer_pool.specs.NewPages.{HoldsOutsidePage, FreesPage}
use Rattle.buffer_pool.specs.Pages.{HasTreePage}
use Rattle.tree_merging.specs.Lifts.{LiftsFrame}

-- the one row points to the page
pub record PointsAtOnly (rows : List Row) (n : ℕ) : Type 0 where
  pub pointer : Row
  pub is : rows ≡ pointer ∷ []
  pub child : pointer.body ≡ Child n

-- the pass holds the tree of an index, its root in the frame of the block b, and the only page that
-- the root points to, whose rows take no more than a page's room
pub record CanLift (v : View) (i b child : ℕ) : Type 0 where
  pub level : ℕ
  pub tree : Tree
  pub root : Frame
  pub low : Frame
  pub knows_tree : KnowsTree v i tree
  pub knows_root : KnowsFrame v b root
  pub knows_low : KnowsFrame v child low
  pub above : HasTreePage root i (suc level)
  pub number : above.page.head.number ≡ i
  pub below : HasTreePage low i level
  pub only : PointsAtOnly above.page.rows below.page.head.number
  pub fits : load_of below.page.rows ≤ PAGE_ROOM

-- the root has the rows of its child and is a level lower, and so is the tree; the child is empty and
-- outside the trees, and still held
pub record SinksRoot (p : TreePass) (i b child : ℕ) (q : TreePass) : Type 0 where
  pub silently : DoesSilently p q (frame_id (shape_of_pass p) b
      ∷ frame_id (shape_of_pass p) child ∷ tree_id i ∷ [])
  pub was : CanLift (view p) i b child
  pub tree : Tree
  pub root : Frame
  pub gone : Frame
  pub knows_tree : KnowsTree (view q) i tree
  pub knows_root : KnowsFrame (view q) b root
  pub knows_gone : KnowsFrame (view q) child gone
  pub lifts : LiftsFrame was.root root was.low gone
  pub sinks : was.tree ≡ record tree { height = suc tree.height }
  pub outside : HoldsOutsidePage (view q) child
  pub count : count q ≡ count p

-- the root sank to its child, whose number was freed then
pub record LiftsRoot (p : TreePass) (i b child : ℕ) (q : TreePass) : Type 0 where
  pub settled : TreePass
  pub sinks : SinksRoot p i b child settled
  pub frees : FreesPage settled child q
