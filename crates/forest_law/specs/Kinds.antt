-- Each object is of its kind.
use Rattle.std.specs.Prelude.{ℕ, ◌≡◌, ◌<◌, List}
use mathlib.Core.Option.{some}
use lib.ListN.{get_elem?}
use Rattle.hash_partition.specs.Part.{Part}
use Rattle.index_law.specs.Shape.{Shape}
use Rattle.forest_law.specs.declared.objects.Frame.{Frame}
use Rattle.forest_law.specs.declared.objects.Pool.{Pool}
use Rattle.forest_law.specs.declared.objects.Object.{Object}
use Rattle.forest_law.specs.declared.objects.Object.TheVariants as object
use Rattle.forest_law.specs.Numbers.{pool_id, frames_of}
use Rattle.forest_law.specs.Objects.{IsFrameOf, IsPartOf, IsTreeAt}

-- each object is of its kind: first the pool, then the trees, then the partitions, then the frames
pub record AreKinds (shape : Shape) (objects : List Object) : Type 0 where
  pub pool : (p : Pool) × (get_elem? objects pool_id ≡ some (object.Pool p))
  pub trees : (i : ℕ) → i < shape.indexes → IsTreeAt objects i
  pub parts : (k : ℕ) → k < shape.parts → (p : Part) × IsPartOf shape objects k p
  pub frames : (b : ℕ) → b < frames_of shape → (f : Frame) × IsFrameOf shape objects b f

-- an object stays of its kind, and a tree the tree of its index
abbrev pub KeepsKind : Object → Object → Type 0
KeepsKind (object.Frame x) (object.Frame y) = Unit {0}
KeepsKind (object.Part x) (object.Part y) = Unit {0}
KeepsKind (object.Pool x) (object.Pool y) = Unit {0}
KeepsKind (object.Tree x) (object.Tree y) = (y.index ≡ x.index) × (y.root ≡ x.root)
KeepsKind x y = ⊥
