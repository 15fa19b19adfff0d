-- What the parts of a seek do.
use Rattle.std.specs.Prelude.{ℕ, ◌≡◌, ◌⊎◌, Option, Some, None, IfSome}
use Rattle.std.specs.List.{AllByRecursion}
use Rattle.key_tuple.specs.KeyPlace.{KeyPlace}
use Rattle.key_tuple.specs.Order.{FieldList}
use Rattle.key_tuple.specs.declared.mode.Mode.{Mode}
use Rattle.latch_space.specs.Passes.{view, count}
use Rattle.map_history.specs.declared.columns.Note.{Note}
use Rattle.map_history.specs.declared.reply.Told.{Told}
use Rattle.map_history.specs.Map.{Pair}
use Rattle.map_history.specs.Operation.{Ask, Seek}
use Rattle.map_history.specs.Report.{Columns}
use Rattle.map_history.specs.Told.{columns_told}
use Rattle.search_info.specs.declared.knows.Knows.{Knows}
use Rattle.index_law.specs.Shape.{Shape}
use Rattle.forest_law.specs.declared.objects.Frame.{Frame}
use Rattle.forest_law.specs.declared.objects.Object.TheVariants as object
use Rattle.forest_law.specs.Numbers.{frame_id}
use Rattle.forest_world.specs.Held.{TreePass, shape_of_pass}
use Rattle.call_law.specs.Hands.{KnowsFrame}
use Rattle.call_law.specs.Once.{IsQuiet}
use Rattle.call_law.specs.Spoken.{View}
use Rattle.call_law.specs.Trace.{Added, SparesTrees, frame_references}
use Rattle.buffer_pool.specs.AsTaken.{AreAsTakenBut, Exception, KeepsAsHeld, NoException, WasHeldSo}
use Rattle.buffer_pool.specs.Frames.{GivesFrame}
use Rattle.buffer_pool.specs.Pages.{HasNumber, HasTreePage}
use Rattle.tree_neighbours.specs.declared.pairs.LeafPair.{LeafPair}
use Rattle.tree_neighbours.specs.Pairs.{DescendsPair}
use Rattle.leaf_search.specs.Downs.{figures_at}
use Rattle.leaf_search.specs.Lessons.{Teaches}
use Rattle.index_seeks.specs.declared.seek_call.Stand.{Stand}
use Rattle.index_seeks.specs.declared.seek_call.Stand.TheVariants.{On, Ends}
use Rattle.engine_law.specs.Says.{SaysOnce, OnlyLooks}
use Rattle.index_seeks.specs.Seeks.{PassesNothing, SawNothing}
use Rattle.index_seeks.specs.SeekHands.{SawPast, WalksAt}
use Rattle.index_seeks.specs.SeekTraces.{BeginOnLeaf, EndsOnLeaves}
use Rattle.tree_neighbours.specs.LeafHands.{IsLeafReference}
use Rattle.engine_law.specs.Tells.{TellsOnce}

-- the one answer was said and is told, or nothing was answered, and nothing else was done
abbrev pub SaysIf : View → View → ℕ → Ask → Option Told → Pair → Type 0
SaysIf v v' i ask None row = OnlyLooks v v' i
SaysIf v v' i ask (Some told) row = SaysOnce v v' i ask told row

-- so many changes of the list were seen, if a number is told: up to any place up to which nothing
-- was sought, nothing is
abbrev pub CountsPast : View → View → ℕ → Mode → FieldList → Option ℕ → Option ℕ → Type 0
CountsPast v v' i mode tuple bound None = Unit {0}
CountsPast v v' i mode tuple bound (Some n) =
    (place : KeyPlace) → PassesNothing v i mode tuple bound place
    → SawNothing v' i n mode tuple place

-- a leaf in hand was looked at: there is nothing on it, or the seek ends
abbrev pub StandsThen : TreePass → TreePass → (b i : ℕ) → Mode → FieldList → Stand → Pair → Type 0
StandsThen p q b i mode tuple (On walk) row = (walk.block ≡ b) × OnlyLooks (view p) (view q) i
    × SawPast (view q) b i walk.point mode tuple
StandsThen p q b i mode tuple (Ends told) row =
    SaysIf (view p) (view q) i (Seek mode tuple) told row

-- what is told has these columns, if the seek ends with an answer
abbrev pub TellsColumns : Columns → Stand → Type 0
TellsColumns columns (On walk) = Unit {0}
TellsColumns columns (Ends told) = IfSome told (λ t. columns_told t ≡ columns)

-- this was added: the operation was answered once and that is told, or nothing was answered
abbrev pub Answered : View → View → ℕ → Ask → Option Told → Pair → Added → Type 0
Answered v v' i ask None row added = (quiet : IsQuiet v v' i) × (quiet.added ≡ added)
Answered v v' i ask (Some told) row added =
    (tells : TellsOnce v v' i ask told row) × (tells.once.added ≡ added)

-- no frames but leaves of the index were given back, as they were held or taken, no tree was taken,
-- and nothing was answered
pub record PassesLeaves (shape : Shape) (v v' : View) (i : ℕ) : Type 0 where
  pub quiet : IsQuiet v v' i
  pub leaves : AllByRecursion (IsLeafReference shape i) (frame_references quiet.added.references)
  pub keeps : KeepsAsHeld v v' quiet.added.references
  pub spares : SparesTrees shape quiet.added

-- the same, and the operation was answered if an answer is told
pub record EndsSeek (shape : Shape) (v v' : View) (i : ℕ) (mode : Mode) (tuple : FieldList)
    (told : Option Told) (row : Pair) : Type 0 where
  pub added : Added
  pub answered : Answered v v' i (Seek mode tuple) told row added
  pub leaves : AllByRecursion (IsLeafReference shape i) (frame_references added.references)
  pub keeps : KeepsAsHeld v v' added.references
  pub spares : SparesTrees shape added

-- the same, and the first of the leaves was that in the block, as it was known
pub record EndsFromLeaf (shape : Shape) (v v' : View) (b i : ℕ) (mode : Mode) (tuple : FieldList)
    (told : Option Told) (row : Pair) : Type 0 where
  pub added : Added
  pub answered : Answered v v' i (Seek mode tuple) told row added
  pub number : ℕ
  pub frame : Frame
  pub knows : KnowsFrame v b frame
  pub has : HasNumber frame number
  pub begin : BeginOnLeaf shape i number (frame_references added.references)
  pub keeps : KeepsAsHeld v v' added.references
  pub spares : SparesTrees shape added

-- one try of a seek: a way led to the leaves, and it was answered if an answer is told; each frame
-- that kept its page was given back as it was taken, but for exceptions
pub record TriesSeek (but : Exception) (v v' : View) (i : ℕ) (mode : Mode) (tuple : FieldList)
    (told : Option Told) (row : Pair) : Type 0 where
  pub added : Added
  pub answered : Answered v v' i (Seek mode tuple) told row added
  pub ends : EndsOnLeaves v.terms.shape i mode tuple added.references
  pub as_taken : AreAsTakenBut but added.references
  pub spares : SparesTrees v.terms.shape added

-- the answer was told by leaves to which a way led, and no tree was taken; each frame that kept its
-- page was given back as it was taken, but for exceptions
pub record TellsByWay (but : Exception) (v v' : View) (i : ℕ) (mode : Mode) (tuple : FieldList)
    (told : Told) (row : Pair) : Type 0 where
  pub tells : TellsOnce v v' i (Seek mode tuple) told row
  pub ends : EndsOnLeaves v.terms.shape i mode tuple tells.once.added.references
  pub as_taken : AreAsTakenBut but tells.once.added.references
  pub spares : SparesTrees v.terms.shape tells.once.added

-- a seek went on from the leaf in the block, as it was known, without an answer, and was answered
-- by leaves to which a way led later
pub record SeeksLater (shape : Shape) (v v' : View) (b i : ℕ) (mode : Mode) (tuple : FieldList)
    (told : Told) (row : Pair) : Type 0 where
  pub between : View
  pub out : Pair
  pub first : EndsFromLeaf shape v between b i mode tuple None out
  pub again : TellsByWay NoException between v' i mode tuple told row

-- a seek was answered from the leaf in the block, or later
abbrev pub SeeksFrom : Shape → View → View → (b i : ℕ) → Mode → FieldList → Told → Pair → Type 0
SeeksFrom shape v v' b i mode tuple told row =
    EndsFromLeaf shape v v' b i mode tuple (Some told) row
    ⊎ SeeksLater shape v v' b i mode tuple told row

-- a way led to the leaves, which are held, and was learnt from
pub record FindsPair (p : TreePass) (l : Knows) (i : ℕ) (mode : Mode) (tuple : FieldList)
    (pair : LeafPair) (told : Note) (q : TreePass) (m : Knows) : Type 0 where
  pub between : TreePass
  pub went : DescendsPair p i mode tuple pair between
  pub taught : Teaches between l i pair.leaf.block (figures_at pair.leaf.spot) told q m

-- a seek was answered by the leaf in the block, which was given back as it was held
pub record AnswersHit (p : TreePass) (b i : ℕ) (mode : Mode) (tuple : FieldList) (told : Told)
    (row : Pair) (q : TreePass) : Type 0 where
  pub between : TreePass
  pub says : SaysOnce (view p) (view between) i (Seek mode tuple) told row
  pub gave : GivesFrame between b q
  pub held : WasHeldSo (view p) (frame_id (shape_of_pass p) b) gave.taken (object.Frame gave.frame)
  pub page : HasTreePage gave.frame i 0

-- nothing was answered and no tree taken; each frame that kept its page was given back as it was
-- taken, but for exceptions
pub record TriesInVain (but : Exception) (v v' : View) (i : ℕ) : Type 0 where
  pub quiet : IsQuiet v v' i
  pub as_taken : AreAsTakenBut but quiet.added.references
  pub spares : SparesTrees v.terms.shape quiet.added

-- a step of a walk: to the next leaf, which is held, or the seek ends, with nothing in hand
abbrev pub WalksThen : TreePass → TreePass → ℕ → Mode → FieldList → Stand → Pair → Type 0
WalksThen p q i mode tuple (On walk) row =
    PassesLeaves (shape_of_pass p) (view p) (view q) i × WalksAt q i mode tuple walk
WalksThen p q i mode tuple (Ends told) row =
    (count q ≡ 0) × EndsSeek (shape_of_pass p) (view p) (view q) i mode tuple told row
