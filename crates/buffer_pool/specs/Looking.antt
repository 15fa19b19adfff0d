-- What a look at the pool for a page finds.
use Rattle.std.specs.Prelude.{ℕ, ◌≡◌, ◌+◌, Option, Some, None, [], ◌∷◌}
use Rattle.latch_space.specs.Passes.{view, count}
use Rattle.forest_law.specs.declared.objects.Frame.{Frame}
use Rattle.forest_law.specs.declared.objects.Pool.{Pool}
use Rattle.forest_law.specs.declared.objects.Where.TheVariants.{Free, InFrame}
use Rattle.forest_law.specs.declared.objects.Object.{Object}
use Rattle.forest_law.specs.Numbers.{pool_id, frame_id}
use Rattle.forest_law.specs.Outside.{HasNoOutside}
use Rattle.forest_law.specs.State.{where_at}
use Rattle.forest_world.specs.Held.{TreePass, shape_of_pass}
use Rattle.call_law.specs.Hands.{KnowsFrame}
use Rattle.call_law.specs.Trace.{frame_references}
use Rattle.buffer_pool.specs.declared.looking.Looked.{Looked}
use Rattle.buffer_pool.specs.declared.looking.Looked.TheVariants as looked
use Rattle.buffer_pool.specs.AsTaken.{HoldsAsTaken}
use Rattle.buffer_pool.specs.Calls.{GetsNothing}
use Rattle.buffer_pool.specs.Causes.{AreUnchanged, HasAged, ComesBy}
use Rattle.buffer_pool.specs.Hands.{LacksFrame}
use Rattle.buffer_pool.specs.Pages.{IsLive, HasNumber, PagesIn, GaveNone, RefusesPage}
use Rattle.buffer_pool.specs.Tries.{TriesGivingParts, IsTried, KnowsPool}
use Rattle.buffer_pool.specs.Victims.{TriedInVain}

-- the page is held in the block's frame besides, for a cause, and the pool is held still;
-- partitions alone were given back
pub record HoldsPageToo (p : TreePass) (n b : ℕ) (t : Object) (x : Pool)
    (q : TreePass) : Type 0 where
  pub tries : TriesGivingParts p q (pool_id ∷ frame_id (shape_of_pass p) b ∷ [])
  pub pool : Pool
  pub knew : KnowsPool (view q) t pool
  pub lacked : LacksFrame p b
  pub frame : Frame
  pub knows : KnowsFrame (view q) b frame
  pub has : HasNumber frame n
  pub held_as_taken : HoldsAsTaken (view q) b
  pub inside : HasNoOutside frame
  pub aged : HasAged x b pool
  pub how : ComesBy p x n b tries.refused pool
  pub count : count q ≡ count p + 1

-- the pool names a frame for the page, and that was tried in vain
pub record RefusesNamed (p : TreePass) (x : Pool) (n : ℕ) (q : TreePass) : Type 0 where
  pub vain : TriedInVain p q
  pub block : ℕ
  pub named : where_at x.place.items n ≡ InFrame block
  pub tried : IsTried (frame_id (shape_of_pass p) block) vain.tries.refused

-- the pool has no page of the number
pub record FindsFree (p : TreePass) (x : Pool) (n : ℕ) (q : TreePass) : Type 0 where
  pub vain : TriedInVain p q
  pub free : where_at x.place.items n ≡ Free

-- what a look at the pool in hand, which was taken as t and is known to be x, found
abbrev pub TellsLook : TreePass → Object → Pool → ℕ → Looked → TreePass → Type 0
TellsLook p t x n (looked.Held b) q = HoldsPageToo p n b t x q
TellsLook p t x n looked.Busy q = RefusesNamed p x n q
TellsLook p t x n looked.NoRoom q = TriedInVain p q
TellsLook p t x n looked.Free q = FindsFree p x n q

-- what was held is held, nothing was said, no frame was given back, and each object that was, as it
-- was taken
pub record GivesNothing (p q : TreePass) : Type 0 where
  pub got : GetsNothing p q
  pub none : frame_references got.silently.added.references ≡ []
  pub unchanged : AreUnchanged got.silently.added.references

-- the pool, as it was held, had no page of the number, so there wasn't one all along
pub record FindsNone (p : TreePass) (n : ℕ) (q : TreePass) : Type 0 where
  pub gives : GivesNothing p q
  pub gave : GaveNone n gives.got.silently.added.references
  pub never : IsLive (view p) n → ⊥

-- what a look for a page found, once the pool is given back
abbrev pub TellsLookFor : TreePass → ℕ → Looked → TreePass → Type 0
TellsLookFor p n (looked.Held b) q = PagesIn p n b q
TellsLookFor p n looked.Busy q = RefusesPage p n q
TellsLookFor p n looked.NoRoom q = GivesNothing p q
TellsLookFor p n looked.Free q = FindsNone p n q

-- the page is held, or there was none
abbrev pub HoldsIf : TreePass → ℕ → Option ℕ → TreePass → Type 0
HoldsIf p n (Some b) q = PagesIn p n b q
HoldsIf p n None q = FindsNone p n q
