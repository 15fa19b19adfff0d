-- What a look at the pool for a free number finds.
use Rattle.std.specs.Prelude.{ℕ, ◌≡◌, ◌+◌, ◌<◌, Some, None, [], ◌∷◌}
use Rattle.latch_space.specs.Passes.{view, count}
use Rattle.index_page.specs.Page.{IsNeighbour}
use Rattle.forest_law.specs.declared.objects.Frame.{Frame}
use Rattle.forest_law.specs.declared.objects.Pool.{Pool}
use Rattle.forest_law.specs.declared.objects.Where.TheVariants.{Free}
use Rattle.forest_law.specs.declared.objects.Object.TheVariants as object
use Rattle.forest_law.specs.Numbers.{pool_id, frame_id}
use Rattle.forest_law.specs.State.{where_at}
use Rattle.forest_world.specs.Held.{TreePass, shape_of_pass}
use Rattle.call_law.specs.Hands.{KnowsFrame}
use Rattle.call_law.specs.Trace.{frame_references}
use Rattle.buffer_pool.specs.declared.free_numbers.Found.{Found}
use Rattle.buffer_pool.specs.declared.free_numbers.Found.TheVariants as found
use Rattle.buffer_pool.specs.Calls.{DoesSilently}
use Rattle.buffer_pool.specs.Causes.{LeavesPool, TookVictim}
use Rattle.buffer_pool.specs.Hands.{LacksFrame}
use Rattle.buffer_pool.specs.Looking.{GivesNothing}
use Rattle.buffer_pool.specs.NewPages.{IsLowestFree, FindsNoneFree}
use Rattle.buffer_pool.specs.Tries.{KnowsPool}
use Rattle.buffer_pool.specs.Turning.{ClearsBlock}

-- the pool is held, and with it the block's frame, whose turn it was to make room, without a page;
-- the number was the lowest that was free in the pool as it was taken, and is free; no frame was
-- given back, and the pool was each time as it was taken
pub record HoldsFree (p : TreePass) (n b : ℕ) (q : TreePass) : Type 0 where
  pub silently : DoesSilently p q (pool_id ∷ frame_id (shape_of_pass p) b ∷ [])
  pub none : frame_references silently.added.references ≡ []
  pub unchanged : LeavesPool silently.added.references
  pub pool : Pool
  pub now : Pool
  pub held : KnowsPool (view q) (object.Pool pool) now
  pub lowest : IsLowestFree pool n
  pub free : where_at now.place.items n ≡ Free
  pub took : TookVictim p pool b silently.added.refused
  pub clears : ClearsBlock pool b now
  pub below : n < (shape_of_pass p).pages
  pub named : IsNeighbour (Some n)
  pub lacked : LacksFrame p b
  pub frame : Frame
  pub knows : KnowsFrame (view q) b frame
  pub empty : frame.page ≡ None
  pub count : count q ≡ count p + 2

-- what a look found: a number and a block, whose frame is held now with the pool; no frame that
-- could be had; or no free number
abbrev pub TellsFree : TreePass → ℕ → Found → TreePass → Type 0
TellsFree p i (found.Room n b) q = HoldsFree p n b q
TellsFree p i found.NoRoom q = GivesNothing p q
TellsFree p i found.NoneFree q = FindsNoneFree p i q
