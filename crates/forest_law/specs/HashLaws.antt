-- The laws of what keeps the hash exact, and of what a lawful state tells of it.
use Rattle.std.specs.Prelude.{ℕ, ◌≡◌, ◌≢◌, ◌<◌, Bool, Option, Some, None, List}
use mathlib.Core.Option.{some}
use lib.ListN.{get_elem?}
use Rattle.index_page.specs.Page.{PageRows}
use Rattle.chain_arena.specs.declared.node.Node.{Node}
use Rattle.chain_arena.specs.Bag.{HasNode}
use Rattle.hash_partition.specs.Part.{Part}
use Rattle.hash_law.specs.Entries.{NodesAt}
use Rattle.hash_law.specs.Blocks.{part_for, IsTidy}
use Rattle.hash_law.specs.BlockLaws.{HasNamedRow}
use Rattle.index_law.specs.Shape.{Shape}
use Rattle.forest_law.specs.declared.objects.Frame.{Frame}
use Rattle.forest_law.specs.declared.objects.Object.{Object}
use Rattle.forest_law.specs.declared.objects.Object.TheVariants as object
use Rattle.forest_law.specs.Numbers.{part_id, frame_id, frames_of}
use Rattle.forest_law.specs.State.{ForestState}
use Rattle.forest_law.specs.Objects.{IsFrameOf, IsPartOf, Becomes}
use Rattle.forest_law.specs.Hashed.{folds_for, hash_block, due_for, IsExactFor, IsPartFor}
use Rattle.forest_law.specs.HashKept.{KeepsHash}
use Rattle.forest_law.specs.HashSteps.{AsksSame, RestsHash, KeepsUp}
use Rattle.forest_law.specs.Law.{IsLawful}

-- a step that hashes nothing keeps the hash, and so does one in which a held partition keeps up. Where
-- a partition isn't held, each held frame asks it for the same nodes after as before
pub record HashIsKept : Type 0 where
  pub rests : (shape : Shape) (before news : List (Option Object))
      → RestsHash shape before news → KeepsHash shape before news
  pub keeps_up : (shape : Shape) (before news : List (Option Object)) (k : ℕ) (p q : Part)
      (blocks : ℕ → Bool) → KeepsUp shape before news k p q blocks → KeepsHash shape before news
  pub unheld : (shape : Shape) (before news : List (Option Object)) (k b : ℕ) (x y : Frame)
      → KeepsHash shape before news
      → ((r : Part) → get_elem? before (part_id shape k) ≡ some (Some (object.Part r)) → ⊥)
      → Becomes before news (frame_id shape b) (object.Frame x) (object.Frame y)
      → (p : Part) → NodesAt b (due_for shape k b p x) (due_for shape k b p y)

-- the frame isn't hashed for an index of partition k
abbrev pub IsNotIn : Shape → ℕ → Frame → Type 0
IsNotIn shape k f = (index : ℕ) → f.hashed ≡ Some index → part_for shape.parts index ≢ k

-- a block asks for the same where it isn't hashed before and after, where it has the same page, or one
-- with the same rows, and is hashed alike, and, of a partition, where it is hashed for indexes of others
pub record BlocksAskTheSame : Type 0 where
  pub unhashed : (shape : Shape) (k b : ℕ) (x y : Frame) → x.hashed ≡ None → y.hashed ≡ None
      → AsksSame shape k b x y
  pub alike : (shape : Shape) (k b : ℕ) (x y : Frame) → y.page ≡ x.page → y.hashed ≡ x.hashed
      → y.figures.built ≡ x.figures.built → AsksSame shape k b x y
  pub same_rows : (shape : Shape) (k b : ℕ) (x y : Frame) (p q : PageRows) → x.page ≡ Some p
      → y.page ≡ Some q → q.rows ≡ p.rows → y.hashed ≡ x.hashed
      → y.figures.built ≡ x.figures.built → AsksSame shape k b x y
  pub elsewhere : (shape : Shape) (k b : ℕ) (x y : Frame) → IsNotIn shape k x → IsNotIn shape k y
      → AsksSame shape k b x y

-- in a lawful state each frame is tidy, each partition in order, and exact of each block
pub record HashesAreExact : Type 0 where
  pub tidy : (w : ForestState) → IsLawful w → (b : ℕ) (f : Frame)
      → IsFrameOf w.shape w.objects b f → IsTidy (hash_block f)
  pub sound : (w : ForestState) → IsLawful w → (k : ℕ) (p : Part)
      → IsPartOf w.shape w.objects k p → IsPartFor w.shape p
  pub exact : (w : ForestState) → IsLawful w → (k b : ℕ) (p : Part) (f : Frame)
      → IsPartOf w.shape w.objects k p → IsFrameOf w.shape w.objects b f
      → IsExactFor w.shape k b p f

-- a node leads to its block, whose frame is hashed for an index of partition k and has a leaf with a
-- row that the node names
pub record LeadsToRow (w : ForestState) (k : ℕ) (n : Node) : Type 0 where
  pub below : n.block < frames_of w.shape
  pub frame : Frame
  pub at : IsFrameOf w.shape w.objects n.block frame
  pub row : HasNamedRow (folds_for w.shape) w.shape.parts k (hash_block frame) n

-- so does each node of a partition of a lawful state
abbrev pub NodesLeadToFrames : Type 0
NodesLeadToFrames =
    (w : ForestState) → IsLawful w → (k : ℕ) (p : Part) (n : Node)
    → IsPartOf w.shape w.objects k p → HasNode p.nodes n → LeadsToRow w k n
