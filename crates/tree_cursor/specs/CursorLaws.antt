-- Laws of cursors and of the references that say them.
use Rattle.std.specs.Prelude.{ℕ, ◌≡◌, Option}
use Rattle.latch_law.specs.declared.knows.Reference.{Reference}
use Rattle.latch_space.specs.Passes.{view}
use Rattle.tree_law.specs.TreeShape.{In}
use Rattle.forest_law.specs.declared.objects.Frame.{Frame}
use Rattle.forest_law.specs.declared.objects.Object.{Object}
use Rattle.forest_law.specs.declared.objects.Object.TheVariants as object
use Rattle.forest_law.specs.Numbers.{frame_id}
use Rattle.forest_world.specs.Held.{TreePass}
use Rattle.call_law.specs.Hands.{KnowsFrame}
use Rattle.call_law.specs.Spoken.{View}
use Rattle.call_law.specs.Trace.{Added, Adds}
use Rattle.buffer_pool.specs.Frames.{GivesFrame}
use Rattle.tree_descent.specs.Ways.{HoldsPage}
use Rattle.tree_cursor.specs.declared.cursor.Cursor.{Cursor}
use Rattle.tree_cursor.specs.Cursors.{HasCursor, Referred}
use Rattle.tree_cursor.specs.Storing.{Stores}

-- a reference of the cursor's block says the cursor where its frame has the cursor
abbrev pub FramesRefer : Type 0
FramesRefer =
    (v : View) (c : Cursor) (q : Reference Object) (f : Frame) → In q v.references
    → q.object ≡ frame_id v.terms.shape c.block → q.released ≡ object.Frame f → HasCursor f c
    → Referred v c

-- so a cursor on the frame that is known of its block is what the pass's references say, once that
-- frame is given back
abbrev pub GivenFramesRefer : Type 0
GivenFramesRefer =
    (p q : TreePass) (c : Cursor) (f : Frame) → KnowsFrame (view p) c.block f → HasCursor f c
    → GivesFrame p c.block q → Referred (view q) c

-- as a cursor that was stored is, once its leaf is given back with no change since
abbrev pub StoredCursorsRefer : Type 0
StoredCursorsRefer =
    (p q : TreePass) (b i : ℕ) (place : Option ℕ) (c : Cursor) → HoldsPage (view p) b i 0
    → Stores (view p) b place c → GivesFrame p b q → Referred (view q) c

-- and they say it still, whatever the pass adds to what it knows
abbrev pub ReferencesStay : Type 0
ReferencesStay =
    (v v' : View) (added : Added) (c : Cursor) → Adds v v' added → Referred v c → Referred v' c
