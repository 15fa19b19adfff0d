-- What a space begins with.
use Rattle.std.specs.Prelude.{ℕ, ◌≡◌, ◌+◌, ◌<◌, ◌≤◌, nat_lt, if◌then◌else◌, Option, None, Some, List, [], length, replicate}
use mathlib.Core.Option.{some}
use lib.ListN.{get_elem?}
use Rattle.latch_law.specs.Opening.{opened}
use Rattle.index_page.specs.Page.{PageRows}
use Rattle.index_page.specs.declared.head.PageHead.{PageHead}
use Rattle.index_law.specs.Shape.{Shape}
use Rattle.learning.specs.Opening.{opening_block}
use Rattle.hash_partition.specs.Part.{empty_part}
use Rattle.forest_law.specs.declared.objects.Frame.{Frame}
use Rattle.forest_law.specs.declared.objects.Stored.{Stored}
use Rattle.forest_law.specs.declared.objects.Pool.{Pool}
use Rattle.forest_law.specs.declared.objects.Tree.{Tree}
use Rattle.forest_law.specs.declared.objects.Where.{Where}
use Rattle.forest_law.specs.declared.objects.Where.TheVariants.{Free, Image}
use Rattle.forest_law.specs.declared.objects.Object.{Object}
use Rattle.forest_law.specs.declared.objects.Object.TheVariants as object
use Rattle.forest_law.specs.Numbers.{pool_id, tree_id, frame_id, frames_of}
use Rattle.forest_law.specs.State.{where_at, image_at, fields_for}
use Rattle.forest_law.specs.Objects.{IsFrameOf, IsPartOf}
use Rattle.forest_law.specs.Counted.{SuitsHash}
use Rattle.forest_law.specs.Law.{IsLawful}

-- the head of an index's first page
abbrev pub root_head : ℕ → ℕ → PageHead
root_head index fields =
    record {
      number = index;
      index = index;
      level = 0;
      prev = None;
      next = None;
      fields = fields;
    }

-- an index's empty first page
abbrev pub empty_page : ℕ → ℕ → PageRows
empty_page index fields = record { head = root_head index fields; rows = [] }

-- the image of an index's empty first page, which has no bounds
abbrev pub empty_image : ℕ → ℕ → Stored
empty_image index fields = record { page = empty_page index fields; low = None; high = None }

-- the image that a page number begins with: the empty root of the index of that number, if there is
-- one
abbrev pub first_image : Shape → ℕ → Option Stored
first_image shape n =
    if nat_lt n shape.indexes then Some (empty_image n (fields_for shape n)) else None

-- a frame of which nothing is known, at this clock and with this page, if there is one
abbrev pub new_frame : (clock : ℕ) → Option PageRows → Frame
new_frame clock page = record {
  page = page;
  low = None;
  high = None;
  clock = clock;
  figures = opening_block;
  hashed = None;
}

-- the frame that each block begins with, at the clock of all: it has no page
abbrev pub first_frame : (clock : ℕ) → Frame
first_frame clock = new_frame clock None

-- the tree that an index begins with: its root is a leaf, of the index's number
abbrev pub first_tree : ℕ → Tree
first_tree i = record { index = i; root = i; height = 0 }

-- where the page of a number is at the opening: each root is an image
abbrev pub first_where : ℕ → ℕ → Where
first_where indexes n = if nat_lt n indexes then Image else Free

-- the pool as it begins: a place and an image for each page, and no block was ever accessed
pub record IsFirstPool (shape : Shape) (pool : Pool) : Type 0 where
  pub counted : length pool.place.items ≡ shape.pages
  pub places : (n : ℕ) → where_at pool.place.items n ≡ first_where shape.indexes n
  pub stored : length pool.images.items ≡ shape.pages
  pub images : (n : ℕ) → image_at pool.images.items n ≡ first_image shape n
  pub ages : pool.ages ≡ replicate shape.blocks 0
  pub tick : pool.tick ≡ 0

-- the objects are the pool, the trees, the partitions and the frames as they begin, with this clock
-- of all frames
pub record AreFirstObjects (shape : Shape) (clock : ℕ) (objects : List Object) : Type 0 where
  pub counted : length objects ≡ frame_id shape (frames_of shape)
  pub pool : Pool
  pub pool_at : get_elem? objects pool_id ≡ some (object.Pool pool)
  pub pool_is : IsFirstPool shape pool
  pub trees : (i : ℕ) → i < shape.indexes
      → get_elem? objects (tree_id i) ≡ some (object.Tree (first_tree i))
  pub parts : (k : ℕ) → k < shape.parts
      → IsPartOf shape objects k (empty_part shape.nodes shape.blocks)
  pub frames : (b : ℕ) → b < frames_of shape → IsFrameOf shape objects b (first_frame clock)

-- a space that begins with these objects, whatever the clock and its other numbers are, begins
-- lawfully, where there is a page for each index, and the sizes suit the hash
abbrev pub ForestsOpenLawfully : Type 0
ForestsOpenLawfully =
    (shape : Shape) (clock : ℕ) (objects : List Object) (most passes : ℕ)
    → length shape.fields ≡ shape.indexes → shape.indexes ≤ shape.pages
    → SuitsHash shape → AreFirstObjects shape clock objects
    → IsLawful (opened shape objects shape.indexes most passes)

-- n items were added behind the old ones, one for each number, by a function of the numbers
pub record AddsEach {X : Type 0} (old new : List X) (n : ℕ) (made : ℕ → X) : Type 0 where
  pub counted : length new ≡ length old + n
  pub kept : (k : ℕ) (x : X) → get_elem? old k ≡ some x → get_elem? new k ≡ some x
  pub each : (i : ℕ) → i < n → get_elem? new (length old + i) ≡ some (made i)
