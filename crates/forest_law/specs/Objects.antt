-- Which object is where, and what becomes of one in hand.
use Rattle.std.specs.Prelude.{ℕ, ◌≡◌, Option, Some, List}
use mathlib.Core.Option.{some}
use lib.ListN.{get_elem?}
use Rattle.hash_partition.specs.Part.{Part}
use Rattle.index_law.specs.Shape.{Shape}
use Rattle.forest_law.specs.declared.objects.Frame.{Frame}
use Rattle.forest_law.specs.declared.objects.Tree.{Tree}
use Rattle.forest_law.specs.declared.objects.Object.{Object}
use Rattle.forest_law.specs.declared.objects.Object.TheVariants as object
use Rattle.forest_law.specs.Numbers.{tree_id, part_id, frame_id}

-- the block b has this frame
abbrev pub IsFrameOf : Shape → List Object → ℕ → Frame → Type 0
IsFrameOf shape objects b frame = get_elem? objects (frame_id shape b) ≡ some (object.Frame frame)

-- the partition k is this one
abbrev pub IsPartOf : Shape → List Object → ℕ → Part → Type 0
IsPartOf shape objects k part = get_elem? objects (part_id shape k) ≡ some (object.Part part)

-- the index i has a tree, whose root is the page of the index's number
pub record IsTreeAt (objects : List Object) (i : ℕ) : Type 0 where
  pub tree : Tree
  pub at : get_elem? objects (tree_id i) ≡ some (object.Tree tree)
  pub index : tree.index ≡ i
  pub root : tree.root ≡ i

-- the object k was x in hand and is y
abbrev pub Becomes : List (Option Object) → List (Option Object) → ℕ → Object → Object → Type 0
Becomes before news k x y =
    (get_elem? before k ≡ some (Some x)) × (get_elem? news k ≡ some (Some y))
