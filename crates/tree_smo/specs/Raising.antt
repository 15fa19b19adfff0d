-- A root that rises, with its tree in hand.
use Rattle.std.specs.Prelude.{ℕ, suc, ◌≡◌, ◌<◌, ◌+◌, ◌∷◌, [], length}
use Rattle.latch_space.specs.Passes.{view, count}
use Rattle.index_page.specs.declared.head.PageHead.{PageHead}
use Rattle.forest_law.specs.declared.objects.Frame.{Frame}
use Rattle.forest_law.specs.declared.objects.Tree.{Tree}
use Rattle.forest_law.specs.Numbers.{tree_id, frame_id}
use Rattle.forest_world.specs.Held.{TreePass, shape_of_pass}
use Rattle.tree_restructure.specs.Raises.{RaisesFrame}
use Rattle.call_law.specs.Hands.{KnowsFrame, KnowsTree}
use Rattle.call_law.specs.Spoken.{View}
use Rattle.buffer_pool.specs.Calls.{DoesSilently}
use Rattle.buffer_pool.specs.Hands.{LacksFrame}
use Rattle.buffer_pool.specs.NewPages.{HasOutsidePage}
use Rattle.buffer_pool.specs.Pages.{HasTreePage}

-- the pass holds the tree of an index and its root, which has two rows or more, in the frame of the
-- block b
pub record CanRaise (v : View) (i b : ℕ) : Type 0 where
  pub tree : Tree
  pub root : Frame
  pub level : ℕ
  pub knows_tree : KnowsTree v i tree
  pub knows_root : KnowsFrame v b root
  pub page : HasTreePage root i level
  pub number : page.page.head.number ≡ i
  pub two : 1 < length page.page.rows

-- all rows of the root are on a new page, in the frame `under`, which is held besides, and the
-- root, a level higher, points to that alone
pub record RaisesRoot (p : TreePass) (i b under : ℕ) (q : TreePass) : Type 0 where
  pub silently : DoesSilently p q (frame_id (shape_of_pass p) b
      ∷ frame_id (shape_of_pass p) under ∷ tree_id i ∷ [])
  pub was : CanRaise (view p) i b
  pub lacked : LacksFrame p under
  pub head : PageHead
  pub fresh : Frame
  pub number : ℕ
  pub blank : HasOutsidePage fresh head number
  pub tree : Tree
  pub root : Frame
  pub below : Frame
  pub knows_tree : KnowsTree (view q) i tree
  pub knows_root : KnowsFrame (view q) b root
  pub knows_below : KnowsFrame (view q) under below
  pub raises : RaisesFrame was.root root fresh below
  pub grows : tree ≡ record was.tree { height = suc was.tree.height }
  pub count : count q ≡ count p + 1
