-- What the calls on a page by its number do.
use Rattle.std.specs.Prelude.{ℕ, ◌≡◌, ◌≢◌, ◌+◌, ◌⊎◌, false, Option, Some, None, [], ◌∷◌, ◌++◌, List}
use Rattle.latch_law.specs.declared.knows.Reference.{Reference}
use Rattle.latch_law.specs.declared.knows.Refusal.{Refusal}
use Rattle.latch_law.specs.Whole.{reference}
use Rattle.latch_space.specs.Passes.{view, count}
use Rattle.index_page.specs.Page.{PageRows}
use Rattle.index_page.specs.Rows.{Row, Child}
use Rattle.tree_law.specs.TreeShape.{In}
use Rattle.tree_law.specs.Pages.{Page, is_own}
use Rattle.forest_law.specs.declared.objects.Frame.{Frame}
use Rattle.forest_law.specs.declared.objects.Pool.{Pool}
use Rattle.forest_law.specs.declared.objects.Where.TheVariants.{Free, InFrame}
use Rattle.forest_law.specs.declared.objects.Object.{Object}
use Rattle.forest_law.specs.declared.objects.Object.TheVariants as object
use Rattle.forest_law.specs.Law.{IsLawful}
use Rattle.forest_law.specs.Numbers.{pool_id, frame_id}
use Rattle.forest_law.specs.Outside.{HasNoOutside}
use Rattle.forest_law.specs.State.{ForestState, pages_of, where_at}
use Rattle.forest_world.specs.Held.{TreePass, shape_of_pass}
use Rattle.call_law.specs.Hands.{KnowsFrame}
use Rattle.call_law.specs.Spoken.{View}
use Rattle.call_law.specs.Trace.{Added, frame_references}
use Rattle.buffer_pool.specs.AsTaken.{AreAsTaken, HoldsAsTaken}
use Rattle.buffer_pool.specs.Calls.{DoesSilently, GetsNothing}
use Rattle.buffer_pool.specs.Causes.{AreUnchanged, PagesBy}
use Rattle.buffer_pool.specs.Forests.{TreeView, FitsTrees}
use Rattle.buffer_pool.specs.Hands.{LacksFrame}

-- in each lawful state in which all that is known is so, there is a page of the number
abbrev pub IsLive : TreeView → ℕ → Type 0
IsLive v n = (w : ForestState) → IsLawful w → FitsTrees w v
    → (page : Page) × (pages_of w.shape w.objects n ≡ Some page)

-- the frame has the page of the number
pub record HasNumber (f : Frame) (n : ℕ) : Type 0 where
  pub page : PageRows
  pub paged : f.page ≡ Some page
  pub number : page.head.number ≡ n

-- each page in a frame that the pass holds is known to be another one
abbrev pub HoldsOtherPages : View → ℕ → Type 0
HoldsOtherPages v n = (b : ℕ) (f : Frame) (page : PageRows) → KnowsFrame v b f
    → f.page ≡ Some page → page.head.number ≢ n

-- the page, which is none outside the trees, is held in the frame of the block b, for a cause; that
-- frame is as it was taken if it had the page then, and no frame was given back
pub record PagesIn (p : TreePass) (n b : ℕ) (q : TreePass) : Type 0 where
  pub silently : DoesSilently p q (frame_id (shape_of_pass p) b ∷ [])
  pub none : frame_references silently.added.references ≡ []
  pub lacked : LacksFrame p b
  pub frame : Frame
  pub knows : KnowsFrame (view q) b frame
  pub has : HasNumber frame n
  pub held_as_taken : HoldsAsTaken (view q) b
  pub inside : HasNoOutside frame
  pub cause : PagesBy p n b silently.added
  pub count : count q ≡ count p + 1

-- the frame has a page of the trees, of this index and level
pub record HasTreePage (f : Frame) (i level : ℕ) : Type 0 where
  pub page : PageRows
  pub paged : f.page ≡ Some page
  pub tree : is_own page.head.number page.head.prev ≡ false
  pub index : page.head.index ≡ i
  pub at_level : page.head.level ≡ level

-- a row points to the page n
pub record PointsAt (rows : List Row) (n : ℕ) : Type 0 where
  pub fore : List Row
  pub this : Row
  pub aft : List Row
  pub was : rows ≡ fore ++ this ∷ aft
  pub child : this.body ≡ Child n

-- a page of the number was held, for a cause, and given back as one that isn't of the trees, or not
-- of this index and level
pub record GaveOther (p : TreePass) (n i level : ℕ) (added : Added) : Type 0 where
  pub block : ℕ
  pub taken : Object
  pub frame : Frame
  pub among : In (reference (frame_id (shape_of_pass p) block) taken (object.Frame frame))
      added.references
  pub cause : PagesBy p n block added
  pub has : HasNumber frame n
  pub not : HasTreePage frame i level → ⊥

-- the pool was held, and had no page of the number; what was given back is as it was taken
pub record GaveNone (n : ℕ) (qs : List (Reference Object)) : Type 0 where
  pub taken : Object
  pub pool : Pool
  pub among : In (reference pool_id taken (object.Pool pool)) qs
  pub free : where_at pool.place.items n ≡ Free
  pub unchanged : AreUnchanged qs

-- there was no page of the number, or it was no page of the trees of this index and level; what is
-- held is as before, and a frame that kept its page was given back as it was taken
pub record FindsNoPage (p : TreePass) (n i level : ℕ) (q : TreePass) : Type 0 where
  pub got : GetsNothing p q
  pub as_taken : AreAsTaken got.silently.added.references
  pub why : GaveNone n got.silently.added.references
      ⊎ GaveOther p n i level got.silently.added

-- the page is held in the block's frame, and is one of the trees of this index and level
pub record FindsPage (p : TreePass) (n i level b : ℕ) (q : TreePass) : Type 0 where
  pub paged : PagesIn p n b q
  pub is : HasTreePage paged.frame i level

-- the page is held where it is one of the trees of this index and level
abbrev pub PagesInIf : TreePass → (n i level : ℕ) → Option ℕ → TreePass → Type 0
PagesInIf p n i level (Some b) q = FindsPage p n i level b q
PagesInIf p n i level None q = FindsNoPage p n i level q

-- the page was in a block's frame, by the pool as it was held, and another pass held that frame
-- at the one try; what is held is as before, and what was given back is as it was taken
pub record RefusesPage (p : TreePass) (n : ℕ) (q : TreePass) : Type 0 where
  pub got : GetsNothing p q
  pub none : frame_references got.silently.added.references ≡ []
  pub unchanged : AreUnchanged got.silently.added.references
  pub block : ℕ
  pub taken : Object
  pub pool : Pool
  pub gave : In (reference pool_id taken (object.Pool pool)) got.silently.added.references
  pub named : where_at pool.place.items n ≡ InFrame block
  pub refused : Refusal Object
  pub among : In refused got.silently.added.refused
  pub object : refused.object ≡ frame_id (shape_of_pass p) block

-- the page is held, or its frame was another's
abbrev pub TellsPageTry : TreePass → ℕ → Option ℕ → TreePass → Type 0
TellsPageTry p n (Some b) q = PagesIn p n b q
TellsPageTry p n None q = RefusesPage p n q
