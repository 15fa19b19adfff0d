-- The hash of a space: what its partitions owe its blocks.
use Rattle.std.specs.Prelude.{ℕ, Option, Some, None, List}
use mathlib.Core.Option.{some}
use mathlib.Core.Option as maybe
use lib.ListN.{get_elem?}
use Rattle.chain_arena.specs.declared.node.Node.{Node}
use Rattle.hash_partition.specs.Part.{Part}
use Rattle.hash_law.specs.Blocks.{Folds, folds_of, HashBlock, due, IsExact, IsPartInOrder, AreHashed}
use Rattle.index_law.specs.Shape.{Shape}
use Rattle.forest_law.specs.declared.objects.Frame.{Frame}
use Rattle.forest_law.specs.declared.objects.Object.{Object}
use Rattle.forest_law.specs.declared.objects.Object.TheVariants as object
use Rattle.forest_law.specs.Numbers.{part_id, frame_id, frames_of}

-- the folds of a space's keys
abbrev pub folds_for : Shape → Folds
folds_for shape = folds_of shape.fold_bits

-- a frame as the hash sees it
abbrev pub hash_block : Frame → HashBlock
hash_block f = record { page = f.page; figures = f.figures; hashed = f.hashed }

-- the nodes that partition k owes the block b with this frame
abbrev pub due_for : Shape → (k b : ℕ) → Part → Frame → List Node
due_for shape k b p f = due (folds_for shape) shape.parts k b p (hash_block f)

-- partition k has the nodes that it owes the block b with this frame, and no others of it
abbrev pub IsExactFor : Shape → (k b : ℕ) → Part → Frame → Type 0
IsExactFor shape k b p f = IsExact (folds_for shape) shape.parts k b p (hash_block f)

-- a partition has as many nodes as the shape says, entered or spare, and each is of a block
abbrev pub IsPartFor : Shape → Part → Type 0
IsPartFor shape p = IsPartInOrder shape.nodes (frames_of shape) p

-- the partition that an object is, if it is one
abbrev pub part_of : maybe.Option Object → Option Part
part_of (some (object.Part p)) = Some p
part_of (some (object.Frame f)) = None
part_of (some (object.Pool p)) = None
part_of (some (object.Tree t)) = None
part_of maybe.none = None

-- partition k among the objects, if there is one
abbrev pub part_at : Shape → List Object → ℕ → Option Part
part_at shape objects k = part_of (get_elem? objects (part_id shape k))

-- the frame that an object is, as the hash sees it, if it is one
abbrev pub hash_block_of : maybe.Option Object → Option HashBlock
hash_block_of (some (object.Frame f)) = Some (hash_block f)
hash_block_of (some (object.Part p)) = None
hash_block_of (some (object.Pool p)) = None
hash_block_of (some (object.Tree t)) = None
hash_block_of maybe.none = None

-- the block b among the objects as the hash sees it, if there is one
abbrev pub hash_block_at : Shape → List Object → ℕ → Option HashBlock
hash_block_at shape objects b = hash_block_of (get_elem? objects (frame_id shape b))

-- the hash is exact, of all partitions and blocks among the objects
abbrev pub IsHashExact : Shape → List Object → Type 0
IsHashExact shape objects = AreHashed (folds_for shape) shape.parts shape.nodes (frames_of shape)
    (part_at shape objects) (hash_block_at shape objects)
