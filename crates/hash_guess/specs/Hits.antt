-- What a hit leaves in hand, and what that tells of each lawful state.
use Rattle.std.specs.Prelude.{ℕ, ◌≡◌, Bool, Some}
use Rattle.key_tuple.specs.Order.{FieldList}
use Rattle.key_tuple.specs.declared.mode.Mode.{Mode}
use Rattle.index_page.specs.Page.{PageRows}
use Rattle.index_page.specs.Rows.{find_row}
use Rattle.tree_law.specs.GuessCheck.{Reaches}
use Rattle.guess_check.specs.Check.{meets, ChecksRow}
use Rattle.forest_law.specs.declared.objects.Frame.{Frame}
use Rattle.forest_law.specs.Law.{IsLawful}
use Rattle.forest_law.specs.State.{ForestState, pages_of, maps_of}
use Rattle.call_law.specs.Hands.{KnowsFrame}
use Rattle.call_law.specs.Spoken.{View}
use Rattle.buffer_pool.specs.Forests.{FitsTrees}
use Rattle.buffer_pool.specs.Pages.{HasTreePage}

-- the block's frame is held, and has a leaf of the index, which shows that its row at the place is the
-- one that the mode asks for, and whether the tuple's fields are those of its key
pub record HoldsHit (v : View) (index : ℕ) (mode : Mode) (tuple : FieldList) (block place : ℕ)
    (found : Bool) : Type 0 where
  pub frame : Frame
  pub knows : KnowsFrame v block frame
  pub is : HasTreePage frame index 0
  pub checks : ChecksRow mode tuple is.page place (Some found)

-- in this state the row at the page's place is the one that the index's map answers
pub record IsReached (w : ForestState) (index : ℕ) (mode : Mode) (tuple : FieldList)
    (page : PageRows) (place : ℕ) (found : Bool) : Type 0 where
  pub reaches : Reaches (pages_of w.shape w.objects) index (maps_of w.lists index) mode tuple
      page.head.number place
  pub there : find_row place page.rows ≡ Some reaches.row
  pub found_is : found ≡ meets tuple reaches.row.key

-- so it is in each lawful state that fits the pass, as long as that holds the frame
abbrev pub HitsReach : Type 0
HitsReach =
    (w : ForestState) → IsLawful w → (v : View) → FitsTrees w v
    → (index : ℕ) (mode : Mode) (tuple : FieldList) (block place : ℕ) (found : Bool)
    → (hit : HoldsHit v index mode tuple block place found)
    → IsReached w index mode tuple hit.is.page place found
