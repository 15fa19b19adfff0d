-- What is in hand keeps the hash exact.
use Rattle.std.specs.Prelude.{ℕ, ◌≡◌, ◌⊎◌, Option, Some, List}
use mathlib.Core.Option.{some}
use lib.ListN.{get_elem?}
use Rattle.hash_partition.specs.Part.{Part}
use Rattle.hash_law.specs.Blocks.{IsTidy}
use Rattle.index_law.specs.Shape.{Shape}
use Rattle.forest_law.specs.declared.objects.Frame.{Frame}
use Rattle.forest_law.specs.declared.objects.Object.{Object}
use Rattle.forest_law.specs.declared.objects.Object.TheVariants as object
use Rattle.forest_law.specs.Numbers.{part_id, frame_id}
use Rattle.forest_law.specs.Objects.{Becomes}
use Rattle.forest_law.specs.Hashed.{hash_block, IsExactFor, IsPartFor}
use Rattle.forest_law.specs.HashStays.{StaysHashed}

-- partition k, p before and q after: it is in hand so, or it isn't in hand and stays
abbrev pub PartLeads : Shape → List (Option Object) → List (Option Object) → ℕ → Part → Part
    → Type 0
PartLeads shape before news k p q =
    Becomes before news (part_id shape k) (object.Part p) (object.Part q)
    ⊎ (((r : Part) → get_elem? before (part_id shape k) ≡ some (Some (object.Part r)) → ⊥)
    × (q ≡ p))

-- the frame of the block b, x before and y after: it is in hand so, or it isn't in hand and stays
abbrev pub FrameLeads : Shape → List (Option Object) → List (Option Object) → ℕ → Frame → Frame
    → Type 0
FrameLeads shape before news b x y =
    Becomes before news (frame_id shape b) (object.Frame x) (object.Frame y)
    ⊎ (((z : Frame) → get_elem? before (frame_id shape b) ≡ some (Some (object.Frame z)) → ⊥)
    × (y ≡ x))

-- what is in hand keeps the hash exact, whatever the partitions and frames of others are: each held
-- frame stays tidy, each held partition in order, and each partition exact of each block; and each held
-- leaf that was hashed stays so, unless there is a cause
pub record KeepsHash (shape : Shape) (before news : List (Option Object)) : Type 0 where
  pub tidy : (b : ℕ) (x y : Frame)
      → Becomes before news (frame_id shape b) (object.Frame x) (object.Frame y)
      → IsTidy (hash_block x) → IsTidy (hash_block y)
  pub sound : (k : ℕ) (p q : Part)
      → Becomes before news (part_id shape k) (object.Part p) (object.Part q)
      → IsPartFor shape p → IsPartFor shape q
  pub exact : (k b : ℕ) (p q : Part) (x y : Frame) → PartLeads shape before news k p q
      → FrameLeads shape before news b x y → IsExactFor shape k b p x → IsExactFor shape k b q y
  pub stays : (b : ℕ) (x y : Frame)
      → Becomes before news (frame_id shape b) (object.Frame x) (object.Frame y)
      → StaysHashed shape before news b x y
