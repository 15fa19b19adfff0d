-- Pages that get a number, or give theirs back.
use Rattle.std.specs.Prelude.{ℕ, ◌≡◌, ◌≢◌, ◌<◌, ◌+◌, Some, None, [], ◌∷◌, length, slice_set}
use Rattle.latch_law.specs.Whole.{reference}
use Rattle.latch_space.specs.Passes.{view, count}
use Rattle.index_page.specs.declared.head.PageHead.{PageHead}
use Rattle.index_page.specs.Page.{PageRows}
use Rattle.tree_law.specs.TreeShape.{In}
use Rattle.clock_law.specs.ModifyClock.{ClockRises}
use Rattle.forest_law.specs.declared.objects.Frame.{Frame}
use Rattle.forest_law.specs.declared.objects.Pool.{Pool}
use Rattle.forest_law.specs.declared.objects.Where.TheVariants.{Free, InFrame}
use Rattle.forest_law.specs.declared.objects.Object.{Object}
use Rattle.forest_law.specs.declared.objects.Object.TheVariants as object
use Rattle.forest_law.specs.Numbers.{frame_id}
use Rattle.forest_law.specs.State.{where_at}
use Rattle.forest_world.specs.Held.{TreePass, shape_of_pass}
use Rattle.call_law.specs.Hands.{KnowsFrame}
use Rattle.call_law.specs.Spoken.{View}
use Rattle.call_law.specs.Trace.{Added, frame_references}
use Rattle.buffer_pool.specs.Hands.{LacksFrame}
use Rattle.buffer_pool.specs.Calls.{DoesSilently, FindsFull}
pub use Rattle.buffer_pool.specs.Causes.{HeldPool}
use Rattle.buffer_pool.specs.Causes.{ChangesPoolOnce, HasAged, MadeRoom}

-- the number is the lowest that is free
pub record IsLowestFree (pool : Pool) (n : ℕ) : Type 0 where
  pub below : n < length pool.place.items
  pub free : where_at pool.place.items n ≡ Free
  pub lowest : (m : ℕ) → m < n → where_at pool.place.items m ≢ Free

-- no number is free
abbrev pub HasNoneFree : Pool → Type 0
HasNoneFree pool = (n : ℕ) → n < length pool.place.items → where_at pool.place.items n ≢ Free

-- an empty page with this number, outside the trees: it has itself as its left neighbour
abbrev pub outside_page : PageHead → ℕ → PageRows
outside_page head n = record { head = record head { number = n; prev = Some n }; rows = [] }

-- the frame has that page, and no bounds, and isn't hashed
pub record HasOutsidePage (f : Frame) (head : PageHead) (n : ℕ) : Type 0 where
  pub page : f.page ≡ Some (outside_page head n)
  pub low : f.low ≡ None
  pub high : f.high ≡ None
  pub hashed : f.hashed ≡ None

-- the lowest number that was free in the pool, as it was held, has a new page outside the trees,
-- which is held in the frame of the block b: that made room for it, and has a new age; no frame was
-- given back
pub record GetsPage (p : TreePass) (head : PageHead) (b : ℕ) (q : TreePass) : Type 0 where
  pub silently : DoesSilently p q (frame_id (shape_of_pass p) b ∷ [])
  pub none : frame_references silently.added.references ≡ []
  pub pool : Pool
  pub held : HeldPool silently.added pool
  pub once : ChangesPoolOnce pool held.now silently.added.references
  pub number : ℕ
  pub lowest : IsLowestFree pool number
  pub placed : where_at held.now.place.items number ≡ InFrame b
  pub room : MadeRoom p pool number b silently.added.refused held.now
  pub aged : HasAged pool b held.now
  pub lacked : LacksFrame p b
  pub frame : Frame
  pub knows : KnowsFrame (view q) b frame
  pub has : HasOutsidePage frame head number
  pub count : count q ≡ count p + 1

-- no number was free in the pool, as it was held
pub record FindsNoneFree (p : TreePass) (i : ℕ) (q : TreePass) : Type 0 where
  pub full : FindsFull p i q
  pub pool : Pool
  pub held : HeldPool full.added pool
  pub none : HasNoneFree pool
  pub same : held.now ≡ pool

-- the frame is known to have an empty page, outside the trees
pub record HoldsOutsidePage (v : View) (b : ℕ) : Type 0 where
  pub frame : Frame
  pub knows : KnowsFrame v b frame
  pub page : PageRows
  pub paged : frame.page ≡ Some page
  pub own : page.head.prev ≡ Some page.head.number
  pub empty : page.rows ≡ []

-- the frame that was held was given back as this one, at a higher clock
pub record GaveFrame (v : View) (added : Added) (b : ℕ) (frame : Frame) : Type 0 where
  pub was : Frame
  pub knew : KnowsFrame v b was
  pub taken : Object
  pub among : In (reference (frame_id v.terms.shape b) taken (object.Frame frame)) added.references
  pub clock : ClockRises was.clock frame.clock

-- the page's number is free in the pool, as it was given back, and its frame was given back without
-- a page, its block at age 0
pub record FreesPage (p : TreePass) (b : ℕ) (q : TreePass) : Type 0 where
  pub was : HoldsOutsidePage (view p) b
  pub silently : DoesSilently p q (frame_id (shape_of_pass p) b ∷ [])
  pub pool : Pool
  pub held : HeldPool silently.added pool
  pub once : ChangesPoolOnce pool held.now silently.added.references
  pub placed : held.now.place.items ≡ slice_set pool.place.items was.page.head.number Free
  pub ages : held.now.ages ≡ slice_set pool.ages b 0
  pub frame : Frame
  pub gave : GaveFrame (view p) silently.added b frame
  pub empty : frame.page ≡ None
  pub lacks : LacksFrame q b
  pub count : count q + 1 ≡ count p
