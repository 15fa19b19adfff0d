-- A root that sinks to the page under it, and takes its rows.
use Rattle.std.specs.Prelude.{suc, ◌≡◌, ◌≢◌, ◌≤◌, false, Option, Some, None, List, [], ◌∷◌}
use Rattle.index_page.specs.declared.TheConstants.{NO_PAGE, PAGE_ROOM}
use Rattle.index_page.specs.Loads.{load_of}
use Rattle.index_page.specs.Rows.{SameRows}
use Rattle.index_page.specs.Page.{PageRows, IsPageInOrder}
use Rattle.clock_law.specs.ModifyClock.{ClockRises}
use Rattle.index_law.specs.Shape.{Shape}
use Rattle.forest_law.specs.declared.objects.Frame.{Frame}
use Rattle.forest_law.specs.declared.objects.Object.{Object}
use Rattle.forest_law.specs.Numbers.{tree_id, frame_id}
use Rattle.forest_law.specs.Outside.{HasNoneOutside}
use Rattle.forest_law.specs.Steps.{InHand, TreeStep, MakesTreeStep}
use Rattle.forest_law.specs.Restructures.{LiftsInHand}
use Rattle.tree_restructure.specs.Parts.{TakesPart, RestBut}
use Rattle.tree_restructure.specs.Raises.{HasOnePointer, IsRootIn}
use Rattle.tree_merging.specs.Merges.{emptied}

-- the rows of the second page can go to a page of the first one's number
pub record SuitsLift (page under : PageRows) : Type 0 where
  pub fields : under.head.fields ≡ page.head.fields
  pub fits : load_of under.rows ≤ PAGE_ROOM
  pub number : under.head.number ≢ NO_PAGE

-- so it is with the pages of two frames
pub record SuitsLiftFrames (t b : Frame) : Type 0 where
  pub page : PageRows
  pub under : PageRows
  pub has : t.page ≡ Some page
  pub has_under : b.page ≡ Some under
  pub suits : SuitsLift page under

-- the page has all rows of the one under it, in their order, and its level; that one is empty
pub record LiftsPage (page top under gone : PageRows) : Type 0 where
  pub go : SameRows under.rows top.rows
  pub head : top.head ≡ record page.head { level = under.head.level }
  pub is_gone : gone ≡ emptied under
  pub order : IsPageInOrder top

-- the page of the root's frame has the rows of that of the other frame, which is empty, and all else
-- in both is as before
pub record LiftsIn (t t' b b' : Frame) : Type 0 where
  pub page : PageRows
  pub top : PageRows
  pub under : PageRows
  pub gone : PageRows
  pub had : t.page ≡ Some page
  pub had_under : b.page ≡ Some under
  pub root : t' ≡ record t { page = Some top }
  pub child : b' ≡ record b { page = Some gone }
  pub lifts : LiftsPage page top under gone

-- the page of the root's frame has the rows of that of the other frame, which is empty, with no
-- bounds. Both clocks rise, and all else in the frames but how they are hashed is as before
pub record LiftsFrame (t t' b b' : Frame) : Type 0 where
  pub page : PageRows
  pub top : PageRows
  pub under : PageRows
  pub gone : PageRows
  pub had : t.page ≡ Some page
  pub has : t'.page ≡ Some top
  pub had_under : b.page ≡ Some under
  pub has_gone : b'.page ≡ Some gone
  pub lifts : LiftsPage page top under gone
  pub rises : ClockRises t.clock t'.clock
  pub under_rises : ClockRises b.clock b'.clock
  pub root : t' ≡ record t {
    page = t'.page;
    clock = t'.clock;
    figures = t'.figures;
    hashed = t'.hashed;
  }
  pub child : b' ≡ record b {
    page = b'.page;
    low = None;
    high = None;
    clock = b'.clock;
    figures = b'.figures;
    hashed = b'.hashed;
  }

-- the page is of a root's index and number of fields, a level lower, with no neighbours, in a frame
-- with no bounds
pub record IsOnlyChild (page under : PageRows) (f : Frame) : Type 0 where
  pub index : under.head.index ≡ page.head.number
  pub fields : under.head.fields ≡ page.head.fields
  pub level : page.head.level ≡ suc under.head.level
  pub prev : under.head.prev ≡ None
  pub next : under.head.next ≡ None
  pub low : f.low ≡ None
  pub high : f.high ≡ None

-- the root took the rows of the one page that it pointed to, its tree is one lower, and all else in
-- hand is at rest; no page outside the trees was in hand
pub record LiftsFrames (shape : Shape) (before news : List (Option Object)) : Type 0 where
  pub top : InHand
  pub below : InHand
  pub tree : TreeStep
  pub lift : LiftsFrame top.old top.new below.old below.new
  pub alone : HasNoneOutside shape before
  pub whole : IsRootIn lift.page top.old
  pub one : HasOnePointer lift.page lift.under.head.number
  pub only : IsOnlyChild lift.page lift.under below.old
  pub root : TakesPart shape before news lift.page.head.number false top
  pub child : TakesPart shape before news lift.under.head.number false below
  pub sinks : MakesTreeStep before news tree
  pub index : tree.index ≡ lift.page.head.number
  pub height : tree.old.height ≡ suc tree.new.height
  pub others : RestBut before news
      (frame_id shape top.block ∷ frame_id shape below.block ∷ tree_id tree.index ∷ [])

-- frames that were lifted so are a lift of the law
abbrev pub LiftsAreInHand : Type 0
LiftsAreInHand = (shape : Shape) (before news : List (Option Object))
    → LiftsFrames shape before news → LiftsInHand shape before news
