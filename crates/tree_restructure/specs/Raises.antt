-- A root that rises over a page that gets its rows.
use Rattle.std.specs.Prelude.{ℕ, suc, ◌≡◌, ◌≢◌, ◌<◌, ◌^◌, true, false, Option, Some, None, List, [], ◌∷◌, length}
use Rattle.key_tuple.specs.KeyPlace.{Start}
use Rattle.index_page.specs.Rows.{Row, Child, SameRows}
use Rattle.index_page.specs.Page.{PageRows, linked, IsPageInOrder}
use Rattle.clock_law.specs.ModifyClock.{ClockRises}
use Rattle.tree_law.specs.Pages.{from_place}
use Rattle.index_law.specs.Shape.{Shape}
use Rattle.forest_law.specs.declared.objects.Frame.{Frame}
use Rattle.forest_law.specs.declared.objects.Object.{Object}
use Rattle.forest_law.specs.Numbers.{tree_id, frame_id}
use Rattle.forest_law.specs.Steps.{InHand, TreeStep, MakesTreeStep}
use Rattle.forest_law.specs.Restructures.{RaisesInHand}
use Rattle.tree_restructure.specs.Cuts.{IsBlankBeside}
use Rattle.tree_restructure.specs.Parts.{TakesPart, RestBut}

-- the page has one row, which points to the child and begins before all keys
pub record HasOnePointer (page : PageRows) (child : ℕ) : Type 0 where
  pub pointer : Row
  pub is : page.rows ≡ pointer ∷ []
  pub child_is : pointer.body ≡ Child child
  pub first : from_place pointer.key ≡ Start

-- the first page has rows, which can go to the second, and may rise by a level
pub record SuitsRaise (page fresh : PageRows) : Type 0 where
  pub some : page.rows ≢ []
  pub blank : IsBlankBeside page fresh
  pub level : suc page.head.level < 2 ^ 16

-- so it is with the pages of two frames
pub record SuitsRaiseFrames (t b : Frame) : Type 0 where
  pub page : PageRows
  pub fresh : PageRows
  pub has : t.page ≡ Some page
  pub has_fresh : b.page ≡ Some fresh
  pub suits : SuitsRaise page fresh

-- all rows of the page, in their order, are on the other, which was blank. The page is a level
-- higher and has one pointer, to that other page, and neither has a neighbour
pub record RaisesPage (page top fresh new : PageRows) : Type 0 where
  pub go : SameRows page.rows new.rows
  pub head : top.head ≡ record page.head { level = suc page.head.level; prev = None; next = None }
  pub new_head : new.head ≡ linked fresh.head None None
  pub one : HasOnePointer top fresh.head.number
  pub order : IsPageInOrder top
  pub new_order : IsPageInOrder new

-- the page of the root's frame rises over that of the other frame, and all else in both is as
-- before, but for how they are hashed
pub record RaisesIn (t t' b b' : Frame) : Type 0 where
  pub page : PageRows
  pub top : PageRows
  pub fresh : PageRows
  pub new : PageRows
  pub had : t.page ≡ Some page
  pub had_fresh : b.page ≡ Some fresh
  pub root : t' ≡ record t { page = Some top; figures = t'.figures; hashed = t'.hashed }
  pub under : b' ≡ record b { page = Some new; figures = b'.figures; hashed = b'.hashed }
  pub blank : IsBlankBeside page fresh
  pub raises : RaisesPage page top fresh new

-- the page of the root's frame rises over that of the other frame, which gets no bounds. Both
-- clocks rise, and all else in the frames is as before, but for how they are hashed
pub record RaisesFrame (t t' b b' : Frame) : Type 0 where
  pub page : PageRows
  pub top : PageRows
  pub fresh : PageRows
  pub new : PageRows
  pub had : t.page ≡ Some page
  pub has : t'.page ≡ Some top
  pub had_fresh : b.page ≡ Some fresh
  pub has_new : b'.page ≡ Some new
  pub blank : IsBlankBeside page fresh
  pub raises : RaisesPage page top fresh new
  pub rises : ClockRises t.clock t'.clock
  pub under_rises : ClockRises b.clock b'.clock
  pub root : t' ≡ record t {
    page = t'.page;
    clock = t'.clock;
    figures = t'.figures;
    hashed = t'.hashed;
  }
  pub under : b' ≡ record b {
    page = b'.page;
    low = None;
    high = None;
    clock = b'.clock;
    figures = b'.figures;
    hashed = b'.hashed;
  }

-- the page is that of its index's number, with no neighbours, in a frame with no bounds
pub record IsRootIn (page : PageRows) (f : Frame) : Type 0 where
  pub index : page.head.index ≡ page.head.number
  pub prev : page.head.prev ≡ None
  pub next : page.head.next ≡ None
  pub low : f.low ≡ None
  pub high : f.high ≡ None

-- the root, which had two rows or more, rose over a page that was outside the trees, its tree is
-- one higher, and all else in hand is at rest
pub record RaisesFrames (shape : Shape) (before news : List (Option Object)) : Type 0 where
  pub top : InHand
  pub below : InHand
  pub tree : TreeStep
  pub raise : RaisesFrame top.old top.new below.old below.new
  pub two : 1 < length raise.page.rows
  pub whole : IsRootIn raise.page top.old
  pub root : TakesPart shape before news raise.page.head.number false top
  pub under : TakesPart shape before news raise.fresh.head.number true below
  pub grows : MakesTreeStep before news tree
  pub index : tree.index ≡ raise.page.head.number
  pub height : tree.new.height ≡ suc tree.old.height
  pub others : RestBut before news
      (frame_id shape top.block ∷ frame_id shape below.block ∷ tree_id tree.index ∷ [])

-- frames that rose so are a raise of the law
abbrev pub RaisesAreInHand : Type 0
RaisesAreInHand = (shape : Shape) (before news : List (Option Object))
    → RaisesFrames shape before news → RaisesInHand shape before news
