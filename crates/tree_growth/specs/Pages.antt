-- Pages in hand on the way down, and the room on them.
use Rattle.std.specs.Prelude.{ℕ, suc, ◌≡◌, ◌≢◌, ◌==◌, ◌<◌, ◌≤◌, ◌+◌, true, false, Some, if◌then◌else◌, length}
use Rattle.key_tuple.specs.Order.{FieldList}
use Rattle.key_tuple.specs.declared.mode.Mode.TheVariants as mode
use Rattle.index_page.specs.declared.TheConstants.{PAGE_ROOM, MAX_CHARGE}
use Rattle.index_page.specs.Loads.{load_of}
use Rattle.index_page.specs.Page.{PageRows, IsPageInOrder}
use Rattle.tree_law.specs.Pages.{low_place, high_place, IsOrderly}
use Rattle.forest_law.specs.declared.objects.Frame.{Frame}
use Rattle.forest_law.specs.State.{bound, page_within, fields_for}
use Rattle.forest_world.specs.Held.{TreePass, HasFrame}
use Rattle.call_law.specs.Hands.{KnowsFrame}
use Rattle.call_law.specs.Spoken.{View}
use Rattle.buffer_pool.specs.Pages.{HasNumber, HasTreePage, PointsAt}
use Rattle.tree_descent.specs.Leaves.{cut_in, IsPageFor}
use Rattle.tree_restructure.specs.Charges.{most_for_pointer}
use Rattle.tree_growth.specs.declared.looking.PageInHand.{PageInHand}

-- what has to be free on a page of this level: so much on a leaf, and above the leaves room for any
-- pointer
abbrev pub needed : ℕ → ℕ → ℕ
needed level need = if level == 0 then need else most_for_pointer

-- it is the block's page, which is in order, of the page's level. Where it isn't full it has what
-- has to be free; where it is it hasn't, and has two rows or more
pub record TellsRoom (block : ℕ) (page : PageRows) (need : ℕ) (at : PageInHand) : Type 0 where
  pub is_block : at.block ≡ block
  pub is_level : at.level ≡ page.head.level
  pub order : IsPageInOrder page
  pub room : at.is_full ≡ false → load_of page.rows + needed at.level need ≤ PAGE_ROOM
  pub full : at.is_full ≡ true → PAGE_ROOM < load_of page.rows + needed at.level need
  pub two : at.is_full ≡ true → 1 < length page.rows

-- the page of the block's frame is in order
abbrev pub IsOrdered : View → ℕ → Type 0
IsOrdered v b = (f : Frame) (page : PageRows) → KnowsFrame v b f → f.page ≡ Some page
    → IsPageInOrder page

-- there is room for any row on the page
abbrev pub HasRoomForAny : PageRows → Type 0
HasRoomForAny page = load_of page.rows + MAX_CHARGE ≤ PAGE_ROOM

-- the pass holds the block's frame, as it is known, and that has a page
abbrev pub HoldsPagedFrame : TreePass → ℕ → Type 0
HoldsPagedFrame p b = (f : Frame) × (page : PageRows) × HasFrame p b f f × (f.page ≡ Some page)

-- the pass holds the block's frame, as it is known, whose page begins at a key of as many fields
pub record HoldsLow (p : TreePass) (b : ℕ) (key : FieldList) : Type 0 where
  pub frame : Frame
  pub has : HasFrame p b frame frame
  pub at : FieldList
  pub begins : bound frame.low ≡ Some at
  pub fields : length key ≡ length at

-- a page of the index is in hand, in whose bounds the key is, and this is known of its room
pub record IsPageInHand (v : View) (i : ℕ) (key : FieldList) (need : ℕ)
    (at : PageInHand) : Type 0 where
  pub frame : Frame
  pub knows : KnowsFrame v at.block frame
  pub page : IsPageFor v.terms.shape frame i at.level (cut_in v.terms.shape i mode.Ge key)
  pub tells : TellsRoom at.block page.is.page need at

-- the block's frame has the root of the index, which is the page of the index's number
pub record HoldsRoot (v : View) (b i : ℕ) : Type 0 where
  pub frame : Frame
  pub knows : KnowsFrame v b frame
  pub has : HasNumber frame i

-- a page of the index is in hand that has room for any pointer, and under it one that it points to,
-- in whose bounds the key is
pub record HoldsChild (v : View) (parent child i : ℕ) (key : FieldList) : Type 0 where
  pub level : ℕ
  pub up : Frame
  pub low : Frame
  pub knows_up : KnowsFrame v parent up
  pub knows_low : KnowsFrame v child low
  pub above : HasTreePage up i (suc level)
  pub below : IsPageFor v.terms.shape low i level (cut_in v.terms.shape i mode.Ge key)
  pub points : PointsAt above.page.rows below.is.page.head.number
  pub room : load_of above.page.rows + most_for_pointer ≤ PAGE_ROOM

-- two pages of a level of the index are in hand that meet at a key, and in whose bounds together
-- the other key is
pub record HoldsBothHalves (v : View) (left right i : ℕ) (key : FieldList) : Type 0 where
  pub level : ℕ
  pub apart : left ≢ right
  pub lower : Frame
  pub upper : Frame
  pub knows_lower : KnowsFrame v left lower
  pub knows_upper : KnowsFrame v right upper
  pub is_lower : HasTreePage lower i level
  pub is_upper : HasTreePage upper i level
  pub order_lower : IsOrderly (fields_for v.terms.shape)
      (page_within is_lower.page lower.low lower.high)
  pub order_upper : IsOrderly (fields_for v.terms.shape)
      (page_within is_upper.page upper.low upper.high)
  pub begins : cut_in v.terms.shape i mode.Ge key (low_place (bound lower.low)) ≡ false
  pub ends : cut_in v.terms.shape i mode.Ge key (high_place (bound upper.high)) ≡ true
  pub at : FieldList
  pub to : bound lower.high ≡ Some at
  pub from : bound upper.low ≡ Some at
