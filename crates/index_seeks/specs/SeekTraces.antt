-- What a seek leaves behind: the way that it went, and the leaves beside.
use Rattle.std.specs.Prelude.{ℕ, ◌≡◌, ◌≢◌, ◌⊎◌, List, [], ◌∷◌, ◌++◌}
use Rattle.std.specs.List.{AllByRecursion}
use Rattle.key_tuple.specs.Order.{FieldList}
use Rattle.key_tuple.specs.declared.mode.Mode.{Mode}
use Rattle.latch_law.specs.declared.knows.Reference.{Reference}
use Rattle.latch_law.specs.Whole.{reference}
use Rattle.map_history.specs.declared.columns.How.{How}
use Rattle.map_history.specs.declared.columns.How.TheVariants as ways
use Rattle.map_history.specs.declared.reply.Told.{Told}
use Rattle.map_history.specs.Map.{Pair}
use Rattle.map_history.specs.Operation.{Seek}
use Rattle.search_info.specs.declared.knows.Knows.{Knows}
use Rattle.index_law.specs.Shape.{Shape}
use Rattle.forest_law.specs.declared.objects.Frame.{Frame}
use Rattle.forest_law.specs.declared.objects.Object.{Object}
use Rattle.forest_law.specs.declared.objects.Object.TheVariants as object
use Rattle.forest_law.specs.Numbers.{frame_id}
use Rattle.call_law.specs.Spoken.{View}
use Rattle.call_law.specs.Trace.{SparesTrees, frame_references}
use Rattle.buffer_pool.specs.AsTaken.{AreAsTaken, AreAsTakenBut}
use Rattle.buffer_pool.specs.Pages.{HasNumber, HasTreePage}
use Rattle.tree_descent.specs.Leaves.{cut_in}
use Rattle.tree_descent.specs.Paths.{LeadFromRoot}
use Rattle.leaf_search.specs.Taught.{IsAsTaught}
use Rattle.tree_neighbours.specs.LeafHands.{IsLeafReference}
use Rattle.engine_law.specs.Tells.{TellsOnce}

-- the references of the leaf of this number, and then of leaves beside it
pub record BeginOnLeaf (shape : Shape) (i number : ℕ) (qs : List (Reference Object)) : Type 0 where
  pub block : ℕ
  pub taken : Object
  pub leaf : Frame
  pub beside : List (Reference Object)
  pub is : qs ≡ reference (frame_id shape block) taken (object.Frame leaf) ∷ beside
  pub has : HasNumber leaf number
  pub each : AllByRecursion (IsLeafReference shape i) beside

-- of the references of frames the last lead from the root to the leaf with the tuple's position,
-- and go on over leaves beside it; those before are of ways that were left
pub record EndsOnLeaves (shape : Shape) (i : ℕ) (mode : Mode) (tuple : FieldList)
    (qs : List (Reference Object)) : Type 0 where
  pub vain : List (Reference Object)
  pub path : List (Reference Object)
  pub leaves : List (Reference Object)
  pub number : ℕ
  pub is : frame_references qs ≡ vain ++ path ++ leaves
  pub leads : LeadFromRoot shape (cut_in shape i mode tuple) i 0 number path
  pub begin : BeginOnLeaf shape i number leaves

-- of the references there is one of a frame, and that is of a leaf of the index
pub record IsOfOneLeaf (shape : Shape) (i : ℕ) (qs : List (Reference Object)) : Type 0 where
  pub leaf : Reference Object
  pub is : frame_references qs ≡ leaf ∷ []
  pub page : IsLeafReference shape i leaf

-- the hash led to one leaf; or a way led to leaves
abbrev pub LeavesFoundBy : Shape → ℕ → Mode → FieldList → How → List (Reference Object) → Type 0
LeavesFoundBy shape i mode tuple how qs = ((how ≡ ways.Hit) × IsOfOneLeaf shape i qs)
    ⊎ ((how ≢ ways.Hit) × EndsOnLeaves shape i mode tuple qs)

-- each frame that kept its page was given back as it was taken, but that of one leaf, which was so as
-- the descent left it that the lessons m end with
pub record AreAsTakenButLeaf (shape : Shape) (i : ℕ) (m : Knows)
    (qs : List (Reference Object)) : Type 0 where
  pub leaf : Reference Object
  pub is : IsLeafReference shape i leaf
  pub taught : IsAsTaught shape i m leaf.taken leaf.released
  pub others : AreAsTakenBut (λ (q : Reference Object). q ≡ leaf) qs

-- the hash led to the leaf, and no frame that kept its page changed; or a way led there, and but one
-- did, which was learnt from
abbrev pub AreAsTakenBy : Shape → ℕ → Knows → How → List (Reference Object) → Type 0
AreAsTakenBy shape i m how qs =
    ((how ≡ ways.Hit) × AreAsTaken qs) ⊎ ((how ≢ ways.Hit) × AreAsTakenButLeaf shape i m qs)

-- the answer was told by leaves that were found as the columns say, and no tree was taken; the frames
-- were given back as they were taken, but for a lesson, with which the lessons m end
pub record TellsOfSeek (v v' : View) (m : Knows) (i : ℕ) (mode : Mode) (tuple : FieldList)
    (told : Told) (row : Pair) : Type 0 where
  pub tells : TellsOnce v v' i (Seek mode tuple) told row
  pub ends : LeavesFoundBy v.terms.shape i mode tuple told.how tells.once.added.references
  pub as_taken : AreAsTakenBy v.terms.shape i m told.how tells.once.added.references
  pub spares : SparesTrees v.terms.shape tells.once.added
