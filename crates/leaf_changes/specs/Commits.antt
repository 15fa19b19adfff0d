-- Changes of the held leaf that are committed, made or to be made.
use Rattle.std.specs.Prelude.{ℕ, ◌≡◌, ◌<◌, true, Option, Some, Result, Ok, Err}
use Rattle.key_tuple.specs.Order.{FieldList}
use Rattle.latch_space.specs.declared.committing.LogFull.{LogFull}
use Rattle.latch_space.specs.Has.{SameHands, IsKnown, IsKnownBut}
use Rattle.latch_space.specs.Passes.{view, count}
use Rattle.map_history.specs.Map.{MapChange, is_allowed, key_of}
use Rattle.map_history.specs.Operation.{Make}
use Rattle.map_history.specs.Reply.{Done}
use Rattle.map_history.specs.Report.{Columns, Replied}
use Rattle.index_page.specs.Page.{PageRows}
use Rattle.tree_law.specs.Pages.{row_pairs, IsOrderly}
use Rattle.hash_partition.specs.Part.{Part}
use Rattle.index_law.specs.Shape.{Shape}
use Rattle.forest_law.specs.declared.objects.Frame.{Frame}
use Rattle.forest_law.specs.Numbers.{frame_id}
use Rattle.forest_law.specs.RowSteps.{ChangesRow}
use Rattle.forest_law.specs.State.{page_within, fields_for}
use Rattle.forest_world.specs.Held.{TreePass, shape_of_pass, HasFrame, HasPart}
use Rattle.call_law.specs.Once.{AnswersOnce}
use Rattle.call_law.specs.Trace.{IsOnlySaid}
use Rattle.leaf_changes.specs.Hashed.{KeepsHashed}
use Rattle.leaf_changes.specs.Holds.{HoldsLeaf}
use Rattle.engine_law.specs.Says.{SeesFull, OnlyLooks}

-- the change, which the rows of the frame f allow, makes it the frame g, whose page is in order
pub record MakesChange (shape : Shape) (change : MapChange) (f g : Frame) : Type 0 where
  pub page : PageRows
  pub new : PageRows
  pub had : f.page ≡ Some page
  pub has : g.page ≡ Some new
  pub head : new.head ≡ page.head
  pub low : g.low ≡ f.low
  pub high : g.high ≡ f.high
  pub allowed : is_allowed (row_pairs page.rows) change ≡ true
  pub changes : ChangesRow change page.rows new.rows f.clock g.clock
  pub order : IsOrderly (fields_for shape) (page_within new g.low g.high)

-- the pass holds the leaf of the key, on which the change was made and isn't known yet; the hash is
-- kept
pub record CanCommit (p : TreePass) (i : ℕ) (key : FieldList) (change : MapChange) : Type 0 where
  pub block : ℕ
  pub index : Option ℕ
  pub known : Frame
  pub made : Frame
  pub holds : HoldsLeaf p block i key known made
  pub hash : KeepsHashed p index block known made made
  pub about : key_of change ≡ key
  pub makes : MakesChange (shape_of_pass p) change known made

-- the pass holds the leaf of the key, of which the change makes the next one, of which the
-- partition is exact already
pub record CanWriteAhead (p : TreePass) (b i : ℕ) (key : FieldList) (change : MapChange)
    (next : Frame) : Type 0 where
  pub index : Option ℕ
  pub known : Frame
  pub now : Frame
  pub holds : HoldsLeaf p b i key known now
  pub hash : KeepsHashed p index b known next next
  pub about : key_of change ≡ key
  pub makes : MakesChange (shape_of_pass p) change known next

-- the change is in its list, by the pass's name, with these columns and at the point, and nothing
-- else was said
pub record IsCommitted (p q : TreePass) (i : ℕ) (change : MapChange) (columns : Columns)
    (point : ℕ) : Type 0 where
  pub once : AnswersOnce (view p) (view q) i (Make change) (Replied Done point columns)
  pub only : IsOnlySaid once.added

-- the change is written, and all that is in hand is known to be what it is
pub record DidWrite (p q : TreePass) (i : ℕ) (change : MapChange) (columns : Columns)
    (point : ℕ) : Type 0 where
  pub written : IsCommitted p q i change columns point
  pub frames : (b : ℕ) (f g : Frame) → HasFrame p b f g → HasFrame q b g g
  pub parts : (k : ℕ) (x y : Part) → HasPart p k x y → HasPart q k y y
  pub known : IsKnown q
  pub count : count q ≡ count p

-- the change is written ahead, and the block's frame is known to be the next one, which it isn't
-- yet; all else in hand is known to be what it is
pub record DidWriteAhead (p q : TreePass) (b i : ℕ) (change : MapChange) (columns : Columns)
    (next : Frame) (point : ℕ) : Type 0 where
  pub written : IsCommitted p q i change columns point
  pub frame : (f g : Frame) → HasFrame p b f g → HasFrame q b next g
  pub parts : (k : ℕ) (x y : Part) → k < (shape_of_pass p).parts → HasPart p k x y → HasPart q k y y
  pub rest : IsKnownBut q (frame_id (shape_of_pass q) b)
  pub count : count q ≡ count p

-- the list is full, which was seen, and nothing else has changed
pub record IsFullThen (p q : TreePass) (i n : ℕ) : Type 0 where
  pub looks : OnlyLooks (view p) (view q) i
  pub full : SeesFull (view q) i
  pub number : n ≡ (view p).terms.max_changes
  pub same : SameHands p q

-- how a commit ends
abbrev pub Commits : TreePass → ℕ → MapChange → Columns → Result ℕ LogFull → TreePass → Type 0
Commits p i change columns (Ok point) q = DidWrite p q i change columns point
Commits p i change columns (Err full) q = IsFullThen p q i full.0

-- how one ends that is ahead of its change
abbrev pub WritesAhead : TreePass → (b i : ℕ) → MapChange → Columns → Frame → Result ℕ LogFull
    → TreePass → Type 0
WritesAhead p b i change columns next (Ok point) q = DidWriteAhead p q b i change columns next point
WritesAhead p b i change columns next (Err full) q = IsFullThen p q i full.0
