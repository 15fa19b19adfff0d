-- Frames whose page is cut in two.
use Rattle.std.specs.Prelude.{ℕ, ◌≡◌, ◌<◌, Some, length}
use Rattle.key_tuple.specs.Order.{FieldList}
use Rattle.index_page.specs.Page.{PageRows}
use Rattle.clock_law.specs.ModifyClock.{ClockRises}
use Rattle.forest_law.specs.declared.objects.Frame.{Frame}
use Rattle.forest_law.specs.State.{bound}
use Rattle.tree_restructure.specs.declared.cut.Cut.{Cut}
use Rattle.tree_restructure.specs.Cuts.{HalvesAt, IsBlankBeside, SuitsPages, CutsPage}

-- the frame has a page of two rows or more
pub record CanBeCut (f : Frame) : Type 0 where
  pub page : PageRows
  pub has : f.page ≡ Some page
  pub two : 1 < length page.rows

-- the cut is that of the frame's page
abbrev pub IsCutOf : Frame → Cut → Type 0
IsCutOf f cut = (page : PageRows) → f.page ≡ Some page
    → HalvesAt page.rows cut.place cut.key.tuple

-- the page of the one frame can be cut at this place and key into that of the other
pub record SuitsFrames (l r : Frame) (place : ℕ) (at : FieldList) : Type 0 where
  pub page : PageRows
  pub fresh : PageRows
  pub has : l.page ≡ Some page
  pub has_fresh : r.page ≡ Some fresh
  pub suits : SuitsPages page fresh place at

-- the page of the left frame is cut into that of the right one, and all else in both is as before, but
-- for how they are hashed
pub record CutsIn (l l' r r' : Frame) (at : FieldList) : Type 0 where
  pub page : PageRows
  pub stays : PageRows
  pub fresh : PageRows
  pub new : PageRows
  pub had : l.page ≡ Some page
  pub had_fresh : r.page ≡ Some fresh
  pub left : l' ≡ record l { page = Some stays; figures = l'.figures; hashed = l'.hashed }
  pub right : r' ≡ record r { page = Some new; figures = r'.figures; hashed = r'.hashed }
  pub blank : IsBlankBeside page fresh
  pub cuts : CutsPage page stays fresh new at

-- the page of the left frame is cut at a key into that of the right one. The left page ends at the
-- key, and the right one reaches from there to where the left one ended. Both clocks rise, and all
-- else in the frames is as before, but for how they are hashed
pub record CutsFrame (l l' r r' : Frame) (at : FieldList) : Type 0 where
  pub page : PageRows
  pub stays : PageRows
  pub fresh : PageRows
  pub new : PageRows
  pub had : l.page ≡ Some page
  pub has : l'.page ≡ Some stays
  pub had_fresh : r.page ≡ Some fresh
  pub has_new : r'.page ≡ Some new
  pub blank : IsBlankBeside page fresh
  pub cuts : CutsPage page stays fresh new at
  pub ends : bound l'.high ≡ Some at
  pub begins : bound r'.low ≡ Some at
  pub reaches : r'.high ≡ l.high
  pub rises : ClockRises l.clock l'.clock
  pub right_rises : ClockRises r.clock r'.clock
  pub left : l' ≡ record l {
    page = l'.page;
    high = l'.high;
    clock = l'.clock;
    figures = l'.figures;
    hashed = l'.hashed;
  }
  pub right : r' ≡ record r {
    page = r'.page;
    low = r'.low;
    high = r'.high;
    clock = r'.clock;
    figures = r'.figures;
    hashed = r'.hashed;
  }
