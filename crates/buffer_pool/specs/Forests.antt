-- A space of trees, and what a pass of it knows.
use Rattle.std.specs.Prelude.{◌≡◌, ℕ}
use Rattle.latch_law.specs.declared.knows.Knows.{Knows}
use Rattle.latch_law.specs.Fitting.{IsFitted, WasFree}
use Rattle.latch_law.specs.Rule.{Fits}
use Rattle.latch_law.specs.Whole.{IsFree}
use Rattle.latch_space.specs.declared.space.SpaceOf.{SpaceOf}
use Rattle.index_law.specs.Answers.{MadeChange, Saying}
use Rattle.index_law.specs.Shape.{Shape}
use Rattle.forest_law.specs.declared.objects.Frame.{Frame}
use Rattle.forest_law.specs.declared.objects.Object.{Object}
use Rattle.forest_law.specs.Law.{IsLawful}
use Rattle.forest_law.specs.Numbers.{frame_id, frames_of}
use Rattle.forest_law.specs.Objects.{IsFrameOf}
use Rattle.index_law.specs.Rightness.{IsRight}
use Rattle.forest_law.specs.References.{IsReference}
use Rattle.forest_law.specs.State.{ForestState}

-- the space has the objects of its shape, and a list for each index
pub record IsForest {Q : Type 0} (space : SpaceOf Shape Object MadeChange Saying Q) : Type 0 where
  pub objects : space.terms.objects ≡ frame_id space.terms.shape (frames_of space.terms.shape)
  pub lists : space.terms.indexes ≡ space.terms.shape.indexes

-- what a pass of such a space knows
abbrev pub TreeView : Type 0
TreeView = Knows Shape Object MadeChange Saying

-- all that is known is so in this state
abbrev pub FitsTrees : ForestState → TreeView → Type 0
FitsTrees w v = Fits IsRight IsReference w v

-- all that is known is so in some lawful state
abbrev pub IsFittedTree : TreeView → Type 0
IsFittedTree v = IsFitted IsLawful IsRight IsReference v

-- in some lawful state in which all that is known is so, nobody holds the object k, which is x
abbrev pub WasObject : TreeView → ℕ → Object → Type 0
WasObject v k x = WasFree IsLawful IsRight IsReference v k x

-- in some lawful state in which all that is known is so, nobody holds the block's frame, which is f
pub record WasFrame (v : TreeView) (b : ℕ) (f : Frame) : Type 0 where
  pub whole : ForestState
  pub is_lawful : IsLawful whole
  pub fits : FitsTrees whole v
  pub free : IsFree whole (frame_id whole.shape b)
  pub at : IsFrameOf whole.shape whole.objects b f
