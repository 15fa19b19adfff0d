-- What a call leaves behind: how its leaf was found, and whether it took a tree.
use Rattle.std.specs.Prelude.{ℕ, ◌≡◌, ◌≢◌, ◌⊎◌, ◌+◌, ◌<◌, Some, None, List, [], ◌∷◌, ◌++◌}
use mathlib.Core.Option.{some}
use lib.ListN.{get_elem?}
use Rattle.key_tuple.specs.Order.{FieldList}
use Rattle.key_tuple.specs.declared.mode.Mode.TheVariants as mode
use Rattle.latch_law.specs.declared.knows.Reference.{Reference}
use Rattle.latch_law.specs.Whole.{reference}
use Rattle.map_history.specs.declared.columns.How.{How}
use Rattle.map_history.specs.declared.columns.How.TheVariants as ways
use Rattle.map_history.specs.declared.reply.Reply.TheVariants as words
use Rattle.map_history.specs.declared.reply.Told.{Told}
use Rattle.map_history.specs.Map.{Pair, Del}
use Rattle.map_history.specs.Operation.{Ask, Make}
use Rattle.index_page.specs.declared.TheConstants.{PAGE_ROOM}
use Rattle.index_page.specs.Loads.{charge_of, load_of}
use Rattle.index_page.specs.Page.{PageRows}
use Rattle.index_page.specs.Rows.{Bytes}
use Rattle.search_info.specs.declared.knows.Knows.{Knows}
use Rattle.index_law.specs.Meanings.{lent_row}
use Rattle.index_law.specs.Shape.{Shape}
use Rattle.index_law.specs.State.{Entries}
use Rattle.forest_law.specs.declared.objects.Frame.{Frame}
use Rattle.forest_law.specs.declared.objects.Object.{Object}
use Rattle.forest_law.specs.declared.objects.Object.TheVariants as object
use Rattle.forest_law.specs.Numbers.{frame_id}
use Rattle.call_law.specs.Once.{IsQuiet}
use Rattle.call_law.specs.Spoken.{View}
use Rattle.call_law.specs.Trace.{SparesTrees, frame_references}
use Rattle.buffer_pool.specs.AsTaken.{AreAsTaken}
use Rattle.buffer_pool.specs.Pages.{HasNumber}
use Rattle.tree_descent.specs.Leaves.{cut_in, IsPageFor}
use Rattle.tree_descent.specs.Paths.{LeadFromRoot}
use Rattle.leaf_search.specs.Taught.{IsAsFound}
use Rattle.tree_shrinking.specs.declared.TheConstants.{LIGHT_LOAD}
use Rattle.search_info.specs.Tries.{TriesAfter}
use Rattle.engine_law.specs.Tells.{TellsOnce}

-- how a leaf was come to: what is so of the number of its page and the references of frames before
abbrev pub Finding : Type 1
Finding = ℕ → List (Reference Object) → Type 0

-- the last of the references lead from the root of an index to the page that has the key's
-- position, of this number; those before are of ways that were left
pub record AreWayTo (shape : Shape) (i : ℕ) (key : FieldList) (number : ℕ)
    (qs : List (Reference Object)) : Type 0 where
  pub vain : List (Reference Object)
  pub path : List (Reference Object)
  pub is : qs ≡ vain ++ path
  pub leads : LeadFromRoot shape (cut_in shape i mode.Ge key) i 0 number path

-- the hash led to the page, and no frame was given back before; or a way led there
abbrev pub IsFoundBy : Shape → ℕ → FieldList → How → Finding
IsFoundBy shape i key how number qs = ((how ≡ ways.Hit) × (qs ≡ []))
    ⊎ ((how ≢ ways.Hit) × AreWayTo shape i key number qs)

-- of the references of frames the last is of a leaf, which was found so by those before
pub record EndsOnLeaf (shape : Shape) (found : Finding) (qs : List (Reference Object)) : Type 0
  where
    pub before : List (Reference Object)
    pub block : ℕ
    pub taken : Object
    pub leaf : Frame
    pub is : frame_references qs
        ≡ before ++ reference (frame_id shape block) taken (object.Frame leaf) ∷ []
    pub number : ℕ
    pub has : HasNumber leaf number
    pub came : found number before

-- the frame has the leaf that has the key's position, on which there is no room for the row
pub record IsFullLeaf (shape : Shape) (i : ℕ) (key : FieldList) (value : List ℕ)
    (leaf : Frame) : Type 0 where
  pub page : IsPageFor shape leaf i 0 (cut_in shape i mode.Ge key)
  pub full : PAGE_ROOM < load_of page.is.page.rows + charge_of key (Bytes value)

-- The answer was told by a leaf that was found as the columns say, and no tree was taken. Each frame
-- that kept its page was given back as it was taken; but that of the leaf as the descent left it,
-- which the lessons m end with, unless the hash led there.
pub record TellsByLeaf (v v' : View) (m : Knows) (i : ℕ) (key : FieldList) (ask : Ask) (told : Told)
    (row : Pair) : Type 0 where
  pub tells : TellsOnce v v' i ask told row
  pub ends : EndsOnLeaf v.terms.shape (IsFoundBy v.terms.shape i key told.how)
      tells.once.added.references
  pub as_taken : AreAsTaken ends.before
  pub as_found : IsAsFound v.terms.shape i m told.how ends.taken (object.Frame ends.leaf)
  pub spares : SparesTrees v.terms.shape tells.once.added

-- The answer of a write: a leaf was found as the columns say. It was told by that leaf, and no tree
-- was taken; or the leaf had no room for the row, and it was told by one to which a way led later,
-- unless there was no page for the row.
pub record TellsOfWrite (v v' : View) (i : ℕ) (key : FieldList) (value : List ℕ) (ask : Ask)
    (told : Told) (row : Pair) : Type 0 where
  pub tells : TellsOnce v v' i ask told row
  pub way : List (Reference Object)
  pub later : List (Reference Object)
  pub added : tells.once.added.references ≡ way ++ later
  pub ends : EndsOnLeaf v.terms.shape (IsFoundBy v.terms.shape i key told.how) way
  pub after : ((later ≡ []) × (told.reply ≢ words.SpaceFull)
      × SparesTrees v.terms.shape tells.once.added)
      ⊎ (IsFullLeaf v.terms.shape i key value ends.leaf
      × (told.reply ≢ words.SpaceFull
      → EndsOnLeaf v.terms.shape (AreWayTo v.terms.shape i key) later))

-- Nothing was answered. A leaf was found, and taught so much; and nothing was done after that, and
-- no tree was taken, unless the leaf had no room for the row.
pub record GivesUp (v v' : View) (l m : Knows) (i : ℕ) (key : FieldList)
    (value : List ℕ) : Type 0 where
  pub quiet : IsQuiet v v' i
  pub how : How
  pub tried : TriesAfter l i how m
  pub way : List (Reference Object)
  pub later : List (Reference Object)
  pub added : quiet.added.references ≡ way ++ later
  pub ends : EndsOnLeaf v.terms.shape (IsFoundBy v.terms.shape i key how) way
  pub after : ((later ≡ []) × SparesTrees v.terms.shape quiet.added)
      ⊎ IsFullLeaf v.terms.shape i key value ends.leaf

-- something was seen of the list of the index, if only that it begins
abbrev pub SeesEach : View → ℕ → Type 0
SeesEach v i = (list : Entries) × (get_elem? v.seen i ≡ some list)

-- the frame has a page that is light
pub record HasLightPage (frame : Frame) : Type 0 where
  pub page : PageRows
  pub paged : frame.page ≡ Some page
  pub light : load_of page.rows < LIGHT_LOAD

-- the answer of a del was told by a leaf that was found as the columns say; and nothing was done
-- after that, and no tree was taken, unless the leaf was light when it was given back
pub record TellsOfDel (v v' : View) (i : ℕ) (key : FieldList) (told : Told) : Type 0 where
  pub tells : TellsOnce v v' i (Make (Del key)) told (lent_row None)
  pub way : List (Reference Object)
  pub later : List (Reference Object)
  pub added : tells.once.added.references ≡ way ++ later
  pub ends : EndsOnLeaf v.terms.shape (IsFoundBy v.terms.shape i key told.how) way
  pub trees : ((later ≡ []) × SparesTrees v.terms.shape tells.once.added)
      ⊎ HasLightPage ends.leaf
