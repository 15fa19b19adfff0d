-- Frames whose pages become one, under a parent that loses a pointer.
use Rattle.std.specs.Prelude.{ℕ, ◌≡◌, ◌≢◌, ◌≤◌, ◌+◌, Some, None, List, ◌∷◌, ◌++◌}
use Rattle.key_tuple.specs.Order.{FieldList}
use Rattle.index_page.specs.declared.TheConstants.{NO_PAGE, PAGE_ROOM}
use Rattle.index_page.specs.Loads.{load_of}
use Rattle.index_page.specs.Rows.{Row, Child}
use Rattle.index_page.specs.Page.{PageRows, IsPageInOrder}
use Rattle.clock_law.specs.ModifyClock.{ClockRises}
use Rattle.forest_law.specs.declared.objects.Frame.{Frame}
use Rattle.tree_merging.specs.Siblings.{FollowsIn}
use Rattle.tree_merging.specs.Merges.{SuitsPair, MergesPage, LosesKey}

-- the frame's page has two pointers in a row, to the left page and to the right one, whose key this
-- is
pub record PointsToBoth (left right : ℕ) (f : Frame) (at : FieldList) : Type 0 where
  pub page : PageRows
  pub has : f.page ≡ Some page
  pub fore : List Row
  pub this : Row
  pub pointer : Row
  pub aft : List Row
  pub was : page.rows ≡ fore ++ this ∷ pointer ∷ aft
  pub this_is : this.body ≡ Child left
  pub pointer_is : pointer.body ≡ Child right
  pub key_is : pointer.key ≡ at

-- the page of the right frame follows that of the left one, under the parent's, and both have room
-- on one page
pub record SuitsMerge (l r u : Frame) : Type 0 where
  pub at : FieldList
  pub page : PageRows
  pub other : PageRows
  pub has : l.page ≡ Some page
  pub has_other : r.page ≡ Some other
  pub follows : FollowsIn l r page other at
  pub fits : load_of page.rows + load_of other.rows ≤ PAGE_ROOM
  pub number : other.head.number ≢ NO_PAGE
  pub up : PointsToBoth page.head.number other.head.number u at

-- the rows of the right frame's page are behind those of the left one's, which reaches to where the
-- right one ended. The right page is empty, with no bounds; both clocks rise, and all else in the
-- frames but how they are hashed is as before
pub record MergesFrame (l l' r r' : Frame) (at : FieldList) : Type 0 where
  pub page : PageRows
  pub whole : PageRows
  pub other : PageRows
  pub gone : PageRows
  pub had : l.page ≡ Some page
  pub has : l'.page ≡ Some whole
  pub had_other : r.page ≡ Some other
  pub has_gone : r'.page ≡ Some gone
  pub follows : FollowsIn l r page other at
  pub merges : MergesPage page whole other gone
  pub reaches : l'.high ≡ r.high
  pub rises : ClockRises l.clock l'.clock
  pub right_rises : ClockRises r.clock r'.clock
  pub left : l' ≡ record l {
    page = l'.page;
    high = l'.high;
    clock = l'.clock;
    figures = l'.figures;
    hashed = l'.hashed;
  }
  pub right : r' ≡ record r {
    page = r'.page;
    low = None;
    high = None;
    clock = r'.clock;
    figures = r'.figures;
    hashed = r'.hashed;
  }

-- the pages of two frames suit a merge
pub record SuitsPairIn (l r : Frame) : Type 0 where
  pub at : FieldList
  pub page : PageRows
  pub other : PageRows
  pub has : l.page ≡ Some page
  pub has_other : r.page ≡ Some other
  pub suits : SuitsPair page other at

-- the page of the right frame is merged into that of the left one, and all else in both is as before
pub record MergesIn (l l' r r' : Frame) : Type 0 where
  pub page : PageRows
  pub whole : PageRows
  pub other : PageRows
  pub gone : PageRows
  pub had : l.page ≡ Some page
  pub had_other : r.page ≡ Some other
  pub left : l' ≡ record l { page = Some whole }
  pub right : r' ≡ record r { page = Some gone }
  pub merges : MergesPage page whole other gone

-- the row with this key of the frame's page is gone, and all else in the frame is as before
pub record LosesPointer (f g : Frame) (at : FieldList) : Type 0 where
  pub page : PageRows
  pub new : PageRows
  pub had : f.page ≡ Some page
  pub kept : g ≡ record f { page = Some new }
  pub loses : LosesKey page new at

-- the pointer to the right page, with this key, which stood right behind that to the left one, is
-- gone; the clock rises, and all else in the frame is as before
pub record DropsPointer (left right : ℕ) (f g : Frame) (at : FieldList) : Type 0 where
  pub was : PointsToBoth left right f at
  pub new : PageRows
  pub is : new.rows ≡ was.fore ++ was.this ∷ was.aft
  pub head : new.head ≡ was.page.head
  pub order : IsPageInOrder new
  pub rises : ClockRises f.clock g.clock
  pub kept : g ≡ record f { page = Some new; clock = g.clock }

-- the right frame's page was merged into the left one's, and the parent has no pointer to it
pub record MergesUnder (l l' r r' u u' : Frame) : Type 0 where
  pub at : FieldList
  pub merge : MergesFrame l l' r r' at
  pub pointer : DropsPointer merge.page.head.number merge.other.head.number u u' at
