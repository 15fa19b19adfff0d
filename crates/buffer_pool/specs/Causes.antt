-- Why a page is in the frame that a call answers: what the call did to the pool, and why that frame
-- made room.
use Rattle.std.specs.Prelude.{ℕ, ◌≡◌, ◌≢◌, ◌<◌, ◌⊎◌, List, length, slice_set}
use Rattle.std.specs.List.{AllByRecursion}
use Rattle.block_ages.specs.Order.{ComesBefore}
use Rattle.latch_law.specs.declared.knows.Reference.{Reference}
use Rattle.latch_law.specs.declared.knows.Refusal.{Refusal}
use Rattle.latch_law.specs.Whole.{reference}
use Rattle.clock_law.specs.ModifyClock.{raised}
use Rattle.tree_law.specs.TreeShape.{In}
use Rattle.forest_law.specs.declared.objects.Pool.{Pool}
use Rattle.forest_law.specs.declared.objects.Where.TheVariants.{InFrame, Image}
use Rattle.forest_law.specs.declared.objects.Object.{Object}
use Rattle.forest_law.specs.declared.objects.Object.TheVariants as object
use Rattle.forest_law.specs.Numbers.{pool_id, frame_id}
use Rattle.forest_law.specs.State.{where_at}
use Rattle.forest_world.specs.Held.{TreePass, shape_of_pass}
use Rattle.call_law.specs.Trace.{Added}
use Rattle.buffer_pool.specs.Hands.{LacksFrame}
use Rattle.buffer_pool.specs.Tries.{IsTried}

-- the pool was held, as it was before, and given back
pub record HeldPool (added : Added) (pool : Pool) : Type 0 where
  pub now : Pool
  pub among : In (reference pool_id (object.Pool pool) (object.Pool now)) added.references

-- each of these objects was given back as it was taken
abbrev pub AreUnchanged : List (Reference Object) → Type 0
AreUnchanged qs = AllByRecursion (λ (q : Reference Object). q.taken ≡ q.released) qs

-- each time the pool was given back it was as it was taken
abbrev pub LeavesPool : List (Reference Object) → Type 0
LeavesPool qs =
    AllByRecursion (λ (q : Reference Object). q.object ≡ pool_id → q.taken ≡ q.released) qs

-- what was given back isn't the pool, or is as it was taken, or is the pool y, which was taken as x
abbrev pub ChangesPoolSo : Pool → Pool → Reference Object → Type 0
ChangesPoolSo x y q = q.object ≡ pool_id
    → (q.taken ≡ q.released) ⊎ (q ≡ reference pool_id (object.Pool x) (object.Pool y))

-- the pool was given back as it was taken each time but one, when x became y
abbrev pub ChangesPoolOnce : Pool → Pool → List (Reference Object) → Type 0
ChangesPoolOnce x y qs = AllByRecursion (ChangesPoolSo x y) qs

-- the pool's tick went one up, or stayed at its last value, and is the block's age
pub record HasAged (x : Pool) (b : ℕ) (y : Pool) : Type 0 where
  pub tick : y.tick ≡ raised x.tick
  pub ages : y.ages ≡ slice_set x.ages b y.tick

-- of the frames that the pass didn't hold, each that comes before the block's, by age and then by
-- number, was tried in vain
abbrev pub TookVictim : TreePass → Pool → ℕ → List (Refusal Object) → Type 0
TookVictim p x b fs = (c : ℕ) → c < length x.ages → ComesBefore x.ages c b
    → LacksFrame p c → IsTried (frame_id (shape_of_pass p) c) fs

-- each page that was in the block's frame is an image
abbrev pub GoesToImage : Pool → ℕ → Pool → Type 0
GoesToImage x b y = (m : ℕ) → where_at x.place.items m ≡ InFrame b
    → where_at y.place.items m ≡ Image

-- the block made room for the page of the number: its turn had come, what was in its frame is an
-- image, and every other page but that of the number kept its place
pub record MadeRoom (p : TreePass) (x : Pool) (n b : ℕ) (fs : List (Refusal Object))
    (y : Pool) : Type 0 where
  pub took : TookVictim p x b fs
  pub gone : GoesToImage x b y
  pub places : (m : ℕ) → m ≢ n → where_at x.place.items m ≢ InFrame b
      → where_at y.place.items m ≡ where_at x.place.items m

-- the page was in the block's frame, and every page kept its place
pub record StayedInFrame (x : Pool) (n b : ℕ) (y : Pool) : Type 0 where
  pub named : where_at x.place.items n ≡ InFrame b
  pub places : y.place.items ≡ x.place.items

-- the page was an image, and came to the block's frame, which made room for it
pub record CameToFrame (p : TreePass) (x : Pool) (n b : ℕ) (fs : List (Refusal Object))
    (y : Pool) : Type 0 where
  pub stored : where_at x.place.items n ≡ Image
  pub named : where_at y.place.items n ≡ InFrame b
  pub room : MadeRoom p x n b fs y

-- the one or the other
abbrev pub ComesBy : TreePass → Pool → (n b : ℕ) → List (Refusal Object) → Pool → Type 0
ComesBy p x n b fs y = StayedInFrame x n b y ⊎ CameToFrame p x n b fs y

-- the pool became another once: the block got a new age, and its frame had the page already, or it
-- made room for it
pub record PagesBy (p : TreePass) (n b : ℕ) (added : Added) : Type 0 where
  pub pool : Pool
  pub held : HeldPool added pool
  pub once : ChangesPoolOnce pool held.now added.references
  pub aged : HasAged pool b held.now
  pub how : ComesBy p pool n b added.refused held.now
