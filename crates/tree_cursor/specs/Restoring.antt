-- What the answer of a cursor that was to be restored tells.
use Rattle.std.specs.Prelude.{ℕ, ◌≡◌, ◌≢◌, ◌<◌, ◌+◌, [], ◌∷◌}
use Rattle.latch_law.specs.declared.knows.Reference.{Reference}
use Rattle.latch_law.specs.Whole.{reference}
use Rattle.latch_space.specs.Passes.{view, count}
use Rattle.clock_law.specs.ModifyClock.{last_clock}
use Rattle.tree_law.specs.Pages.{Page}
use Rattle.forest_law.specs.declared.objects.Frame.{Frame}
use Rattle.forest_law.specs.declared.objects.Object.{Object}
use Rattle.forest_law.specs.declared.objects.Object.TheVariants as object
use Rattle.forest_law.specs.Numbers.{frame_id}
use Rattle.forest_world.specs.Held.{TreePass, shape_of_pass}
use Rattle.call_law.specs.Spoken.{View}
use Rattle.buffer_pool.specs.AsTaken.{GaveAsTaken, HoldsAsTaken}
use Rattle.buffer_pool.specs.Calls.{Does}
use Rattle.buffer_pool.specs.Frames.{RefusesFrame}
use Rattle.buffer_pool.specs.Hands.{LacksFrame}
use Rattle.buffer_pool.specs.Tries.{tries_alone, tries_and_given}
use Rattle.tree_descent.specs.Ways.{HoldsPage}
use Rattle.tree_cursor.specs.declared.cursor.Cursor.{Cursor}
use Rattle.tree_cursor.specs.declared.cursor.Restored.{Restored}
use Rattle.tree_cursor.specs.declared.cursor.Restored.TheVariants.{ByClock, BySearch}
use Rattle.tree_cursor.specs.declared.cursor.Stale.{Stale}
use Rattle.tree_cursor.specs.declared.cursor.Stale.TheVariants.{Busy, Moved, Last}
use Rattle.tree_cursor.specs.Cursors.{HasCursor, Referred}

-- a page of the same index within the same bounds
pub record HasSameBounds (old new : Page) : Type 0 where
  pub index : new.index ≡ old.index
  pub low : new.low ≡ old.low
  pub high : new.high ≡ old.high

-- the cursor's block is held, and its frame has the cursor: on a leaf with the index and the bounds
-- of this page
pub record HoldsCursor (v : View) (c : Cursor) (page : Page) : Type 0 where
  pub holds : HoldsPage v c.block page.index 0
  pub has : HasCursor holds.frame c
  pub same : HasSameBounds page has.page

-- one try took the cursor's block, which is held besides, as it was taken, with all that the pass's
-- reference says
pub record HoldsAgain (p : TreePass) (c : Cursor) (q : TreePass) : Type 0 where
  pub lacked : LacksFrame p c.block
  pub does : Does p q (frame_id (shape_of_pass p) c.block ∷ []) (tries_alone [])
  pub count : count q ≡ count p + 1
  pub held_as_taken : HoldsAsTaken (view q) c.block
  pub again : (r : Referred (view p) c) → HoldsCursor (view q) c r.has.page

-- the frame's reference, as it was taken and given back
abbrev pub frame_given : TreePass → ℕ → Frame → Reference Object
frame_given p b f =
    reference (frame_id (shape_of_pass p) b) (object.Frame f) (object.Frame f)

-- one try took the block, and it was given back as it was taken: at another clock than the one kept
pub record WentBack (p : TreePass) (b : ℕ) (kept found : ℕ) (q : TreePass) : Type 0 where
  pub lacked : LacksFrame p b
  pub frame : Frame
  pub clock : frame.clock ≡ found
  pub moved : found ≢ kept
  pub does : Does p q [] (tries_and_given [] (frame_given p b frame ∷ []))

-- why the leaf has to be searched: the clock kept is the last; or it is below the last, and another
-- pass held the block at the one try; or it is below the last, and the block has another clock
abbrev pub IsStale : TreePass → Cursor → Stale → TreePass → Type 0
IsStale p c Last q = (c.clock ≡ last_clock) × (q ≡ p)
IsStale p c (Busy n) q = (c.clock < last_clock) × RefusesFrame p c.block n q
IsStale p c (Moved kept found) q =
    (c.clock < last_clock) × (kept ≡ c.clock) × WentBack p c.block kept found q

-- what the answer tells: the leaf is held by the clock kept, which is below the last; or the pass
-- holds what it held, for a cause, and gave back what it took as it was taken
abbrev pub Restores : TreePass → Cursor → Restored → TreePass → Type 0
Restores p c (ByClock b) q = (b ≡ c.block) × (c.clock < last_clock) × HoldsAgain p c q
Restores p c (BySearch cause) q = GaveAsTaken p q × IsStale p c cause q
