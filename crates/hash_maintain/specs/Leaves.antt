-- A frame that is hashed in its partition, and what a call makes of both.
use Rattle.std.specs.Prelude.{ℕ, ◌≡◌, ◌≤◌, Option, Some, None, IsSome}
use Rattle.key_tuple.specs.declared.mode.Params.{Params}
use Rattle.index_page.specs.Page.{PageRows}
use Rattle.index_page.specs.Rows.{find_row}
use Rattle.index_page.specs.Changes.{rows_without}
use Rattle.chain_arena.specs.Bag.{SameOutsideBlock}
use Rattle.hash_partition.specs.Part.{Part, KeepsShape}
use Rattle.hash_law.specs.Blocks.{folds_of, part_for, IsExact}
use Rattle.hash_upkeep.specs.declared.hashing.Hashing.{Hashing}
use Rattle.hash_upkeep.specs.declared.built.Build.{Build}
use Rattle.hash_upkeep.specs.declared.upkeep.Upkeep.{Upkeep}
use Rattle.hash_upkeep.specs.declared.upkeep.Upkeep.TheVariants.{Kept, Dropped}
use Rattle.hash_upkeep.specs.Hashing.{hashing_if}
use Rattle.hash_upkeep.specs.Build.{built_after}
use Rattle.forest_law.specs.declared.objects.Frame.{Frame}
use Rattle.forest_law.specs.Hashed.{hash_block}

-- how a block is hashed for an index with parameters, if it is
abbrev pub hashing_by : (block bits : ℕ) → Option ℕ → Option Params → Option Hashing
hashing_by block bits None built = None
hashing_by block bits (Some index) built = hashing_if index block bits built

-- how the block with this frame is hashed, if it is
abbrev pub hashing_of : (block bits : ℕ) → Frame → Option Hashing
hashing_of block bits f = hashing_by block bits f.hashed f.figures.built

-- the frame is hashed so
pub record IsHashedSo (how : Hashing) (f : Frame) : Type 0 where
  pub index : f.hashed ≡ Some how.index
  pub params : f.figures.built ≡ Some how.params

-- folds are cut to 1 to 64 bits
pub record CutsFolds (how : Hashing) : Type 0 where
  pub some : 1 ≤ how.bits
  pub fit : how.bits ≤ 64

-- however many partitions there are, the one of the index has of the block with this frame the nodes
-- that it owes it
abbrev pub IsExactSo : Hashing → Part → Frame → Type 0
IsExactSo how part f = (parts : ℕ)
    → IsExact (folds_of how.bits) parts (part_for parts how.index) how.block part (hash_block f)

-- the partition is exact of the block with this frame now; other blocks' nodes, how many nodes there is
-- room for, and the stamps are as before
pub record KeepsUpSo (how : Hashing) (f : Frame) (old new : Part) : Type 0 where
  pub exact : IsExactSo how new f
  pub others : SameOutsideBlock new.nodes old.nodes how.block
  pub shape : KeepsShape old new

-- the frame, hashed for this index with these parameters, or not at all
abbrev pub hashed_with : Option ℕ → Option Params → Frame → Frame
hashed_with index built f =
    record f { figures = record f.figures { built = built }; hashed = index }

-- the frame that isn't hashed
abbrev pub unhashed : Frame → Frame
unhashed f = hashed_with None None f

-- the index, if there are parameters
abbrev pub index_if : Option Params → ℕ → Option ℕ
index_if None index = None
index_if (Some params) index = Some index

-- the frame after a build
abbrev pub frame_built : Build → Hashing → Frame → Frame
frame_built answer how f = hashed_with (index_if (built_after answer how.params) how.index)
    (built_after answer how.params) f

-- the frame after its partition kept up with a row, or dropped its block
abbrev pub kept_frame : Upkeep → Frame → Frame
kept_frame Kept f = f
kept_frame (Dropped need spare) f = unhashed f

-- a page without the row at a place
abbrev pub paged_without : ℕ → Option PageRows → Option PageRows
paged_without place None = None
paged_without place (Some page) = Some (record page { rows = rows_without place page.rows })

-- the frame without that row
abbrev pub without_row : ℕ → Frame → Frame
without_row place f = record f { page = paged_without place f.page }

-- the frame has a page with a row at this place
pub record HasRowInFrame (f : Frame) (place : ℕ) : Type 0 where
  pub page : PageRows
  pub page_is : f.page ≡ Some page
  pub row : IsSome (find_row place page.rows)
