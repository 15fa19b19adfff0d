-- A child that is split under its parent, both in hand.
use Rattle.std.specs.Prelude.{ℕ, suc, ◌≡◌, ◌<◌, ◌≤◌, ◌+◌, ◌∷◌, [], length}
use Rattle.key_tuple.specs.Order.{FieldList}
use Rattle.latch_space.specs.Passes.{view, count}
use Rattle.index_page.specs.declared.head.PageHead.{PageHead}
use Rattle.index_page.specs.declared.TheConstants.{PAGE_ROOM}
use Rattle.index_page.specs.Loads.{load_of}
use Rattle.forest_law.specs.declared.objects.Frame.{Frame}
use Rattle.forest_law.specs.Numbers.{frame_id}
use Rattle.forest_world.specs.Held.{TreePass, shape_of_pass}
use Rattle.tree_restructure.specs.Charges.{most_for_pointer, largest_on}
use Rattle.tree_restructure.specs.FrameCuts.{CutsFrame}
use Rattle.tree_restructure.specs.Pointers.{PutsPointer}
use Rattle.call_law.specs.Hands.{KnowsFrame}
use Rattle.call_law.specs.Spoken.{View}
use Rattle.buffer_pool.specs.Calls.{DoesSilently}
use Rattle.buffer_pool.specs.Hands.{LacksFrame}
use Rattle.buffer_pool.specs.NewPages.{HasOutsidePage}
use Rattle.buffer_pool.specs.Pages.{HasTreePage, PointsAt}

-- the pass holds a page of an index, which has two rows or more and no room for one row more of the
-- largest charge, and the page above it, which points to it and has room for any pointer
pub record CanSplit (v : View) (parent child i : ℕ) : Type 0 where
  pub level : ℕ
  pub up : Frame
  pub low : Frame
  pub knows_up : KnowsFrame v parent up
  pub knows_low : KnowsFrame v child low
  pub above : HasTreePage up i (suc level)
  pub below : HasTreePage low i level
  pub points : PointsAt above.page.rows below.page.head.number
  pub room : load_of above.page.rows + most_for_pointer ≤ PAGE_ROOM
  pub two : 1 < length below.page.rows
  pub full : PAGE_ROOM < load_of below.page.rows + largest_on level

-- the upper half of the child's rows is on a new page, in the frame `right`, which is held besides,
-- and the parent points to that too
pub record SplitsChild (p : TreePass) (parent child i right : ℕ) (q : TreePass) : Type 0 where
  pub silently : DoesSilently p q (frame_id (shape_of_pass p) parent
      ∷ frame_id (shape_of_pass p) child ∷ frame_id (shape_of_pass p) right ∷ [])
  pub was : CanSplit (view p) parent child i
  pub lacked : LacksFrame p right
  pub at : FieldList
  pub head : PageHead
  pub fresh : Frame
  pub number : ℕ
  pub blank : HasOutsidePage fresh head number
  pub up : Frame
  pub left : Frame
  pub new : Frame
  pub knows_up : KnowsFrame (view q) parent up
  pub knows_left : KnowsFrame (view q) child left
  pub knows_new : KnowsFrame (view q) right new
  pub cuts : CutsFrame was.low left fresh new at
  pub pointer : PutsPointer was.below.page.head.number number was.up up at
  pub count : count q ≡ count p + 1
