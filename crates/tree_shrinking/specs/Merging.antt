-- Two children that become one under their parent, all in hand.
use Rattle.std.specs.Prelude.{ℕ, suc, ◌≡◌, ◌≤◌, ◌+◌, List, [], ◌∷◌, ◌++◌}
use Rattle.latch_space.specs.Passes.{view, count}
use Rattle.index_page.specs.Loads.{load_of}
use Rattle.index_page.specs.Rows.{Row, Child}
use Rattle.forest_law.specs.declared.objects.Frame.{Frame}
use Rattle.forest_law.specs.Numbers.{frame_id}
use Rattle.forest_world.specs.Held.{TreePass, shape_of_pass}
use Rattle.call_law.specs.Hands.{KnowsFrame}
use Rattle.call_law.specs.Spoken.{View}
use Rattle.buffer_pool.specs.Calls.{DoesSilently}
use Rattle.buffer_pool.specs.NewPages.{HoldsOutsidePage, FreesPage}
use Rattle.buffer_pool.specs.Pages.{HasTreePage}
use Rattle.tree_merging.specs.FrameMerges.{MergesUnder}
use Rattle.tree_shrinking.specs.declared.TheConstants.{MERGED_LOAD}

-- two rows that follow one another point to the left page and to the right one
pub record PointsAtPair (rows : List Row) (left right : ℕ) : Type 0 where
  pub fore : List Row
  pub this : Row
  pub pointer : Row
  pub aft : List Row
  pub was : rows ≡ fore ++ this ∷ pointer ∷ aft
  pub this_is : this.body ≡ Child left
  pub pointer_is : pointer.body ≡ Child right

-- the pass holds two pages of an index that follow one another under a page that it holds too, and
-- their rows together take no more than a page may that comes of two
pub record CanMerge (v : View) (parent left right i : ℕ) : Type 0 where
  pub level : ℕ
  pub up : Frame
  pub lower : Frame
  pub upper : Frame
  pub knows_up : KnowsFrame v parent up
  pub knows_left : KnowsFrame v left lower
  pub knows_right : KnowsFrame v right upper
  pub above : HasTreePage up i (suc level)
  pub is_left : HasTreePage lower i level
  pub is_right : HasTreePage upper i level
  pub points : PointsAtPair above.page.rows is_left.page.head.number is_right.page.head.number
  pub fits : load_of is_left.page.rows + load_of is_right.page.rows ≤ MERGED_LOAD

-- the rows of the right page are behind those of the left one, the parent points to that alone, and
-- the right page is empty and outside the trees; all three are still held
pub record MergesPair (p : TreePass) (parent left right i : ℕ) (q : TreePass) : Type 0 where
  pub silently : DoesSilently p q (frame_id (shape_of_pass p) parent
      ∷ frame_id (shape_of_pass p) left ∷ frame_id (shape_of_pass p) right ∷ [])
  pub was : CanMerge (view p) parent left right i
  pub up : Frame
  pub whole : Frame
  pub gone : Frame
  pub knows_up : KnowsFrame (view q) parent up
  pub knows_whole : KnowsFrame (view q) left whole
  pub knows_gone : KnowsFrame (view q) right gone
  pub merges : MergesUnder was.lower whole was.upper gone was.up up
  pub outside : HoldsOutsidePage (view q) right
  pub count : count q ≡ count p

-- the right page was merged into the left one, and its number was freed then
pub record MergesChildren (p : TreePass) (parent left right i : ℕ) (q : TreePass) : Type 0 where
  pub settled : TreePass
  pub merges : MergesPair p parent left right i settled
  pub frees : FreesPage settled right q
