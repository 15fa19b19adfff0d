-- Steps of what is in hand, as the hash sees them.
use Rattle.std.specs.Prelude.{ℕ, ◌≡◌, ◌≢◌, Bool, true, false, Option, List}
use Rattle.chain_arena.specs.declared.node.Node.{Node}
use Rattle.chain_arena.specs.Bag.{count_of}
use Rattle.hash_partition.specs.Part.{Part}
use Rattle.hash_law.specs.Blocks.{IsTidy}
use Rattle.index_law.specs.Shape.{Shape}
use Rattle.forest_law.specs.declared.objects.Frame.{Frame}
use Rattle.forest_law.specs.declared.objects.Object.{Object}
use Rattle.forest_law.specs.declared.objects.Object.TheVariants as object
use Rattle.forest_law.specs.Numbers.{part_id, frame_id}
use Rattle.forest_law.specs.Objects.{Becomes}
use Rattle.forest_law.specs.Hashed.{hash_block, due_for, IsExactFor, IsPartFor}
use Rattle.forest_law.specs.HashStays.{IsHashedAlike, StaysHashed}

-- the block asks partition k for the same nodes after as before
abbrev pub AsksSame : Shape → (k b : ℕ) → Frame → Frame → Type 0
AsksSame shape k b x y = (p q : Part) → due_for shape k b q y ≡ due_for shape k b p x

-- the frame is hashed as before, and as much is known of how that would help
pub record KeepsHashing (x y : Frame) : Type 0 where
  pub figures : y.figures ≡ x.figures
  pub hashed : y.hashed ≡ x.hashed

-- each held frame stays tidy
abbrev pub StayTidy : Shape → List (Option Object) → List (Option Object) → Type 0
StayTidy shape before news = (b : ℕ) (x y : Frame)
    → Becomes before news (frame_id shape b) (object.Frame x) (object.Frame y)
    → IsTidy (hash_block x) → IsTidy (hash_block y)

-- a step that hashes nothing: each held frame stays tidy, asks for what it asked for, and is hashed as
-- it was, if it was; and each held partition stays
pub record RestsHash (shape : Shape) (before news : List (Option Object)) : Type 0 where
  pub tidy : StayTidy shape before news
  pub parts : (k : ℕ) (p q : Part)
      → Becomes before news (part_id shape k) (object.Part p) (object.Part q) → q ≡ p
  pub asks : (k b : ℕ) (x y : Frame)
      → Becomes before news (frame_id shape b) (object.Frame x) (object.Frame y)
      → AsksSame shape k b x y
  pub stays : (b : ℕ) (x y : Frame)
      → Becomes before news (frame_id shape b) (object.Frame x) (object.Frame y)
      → IsHashedAlike x y

-- the frame of the block is held, and partition k stays exact of it
pub record StaysExact (shape : Shape) (before news : List (Option Object)) (k b : ℕ)
    (p q : Part) : Type 0 where
  pub old : Frame
  pub new : Frame
  pub becomes : Becomes before news (frame_id shape b) (object.Frame old) (object.Frame new)
  pub exact : IsExactFor shape k b p old → IsExactFor shape k b q new

-- a step in which the held partition k keeps up with some blocks: of these it stays exact, of all
-- others it has the nodes that it had, and no other partition has to do with it; a leaf that was hashed
-- stays so, unless there is a cause
pub record KeepsUp (shape : Shape) (before news : List (Option Object)) (k : ℕ) (p q : Part)
    (blocks : ℕ → Bool) : Type 0 where
  pub becomes : Becomes before news (part_id shape k) (object.Part p) (object.Part q)
  pub sound : IsPartFor shape p → IsPartFor shape q
  pub parts : (j : ℕ) (r s : Part) → j ≢ k
      → Becomes before news (part_id shape j) (object.Part r) (object.Part s) → s ≡ r
  pub tidy : StayTidy shape before news
  pub held : (b : ℕ) → blocks b ≡ true → StaysExact shape before news k b p q
  pub others : (b : ℕ) → blocks b ≡ false → (n : Node) → n.block ≡ b
      → count_of n q.nodes ≡ count_of n p.nodes
  pub asks : (j b : ℕ) (x y : Frame)
      → Becomes before news (frame_id shape b) (object.Frame x) (object.Frame y)
      → (blocks b ≡ true → j ≢ k) → AsksSame shape j b x y
  pub stays : (b : ℕ) (x y : Frame)
      → Becomes before news (frame_id shape b) (object.Frame x) (object.Frame y)
      → StaysHashed shape before news b x y
