-- A put on the root of a space that was just opened, once it is in a frame, and the state that it
-- leads to.
use Rattle.std.specs.Prelude.{ℕ, ◌≡◌, ◌≤◌, Option, Some, None, List, [], ◌∷◌, length, set}
use Rattle.key_tuple.specs.Order.{FieldList}
use Rattle.map_history.specs.Map.{Put}
use Rattle.map_history.specs.Report.{Columns}
use Rattle.index_page.specs.Page.{PageRows}
use Rattle.index_page.specs.Rows.{Bytes, placed_row}
use Rattle.hash_partition.specs.Part.{empty_part}
use Rattle.index_law.specs.Answers.{MadeChange}
use Rattle.index_law.specs.Shape.{Shape}
use Rattle.index_law.specs.State.{Entries}
use Rattle.forest_law.specs.declared.objects.Frame.{Frame}
use Rattle.forest_law.specs.declared.objects.Pool.{Pool}
use Rattle.forest_law.specs.declared.objects.Where.TheVariants.{InFrame}
use Rattle.forest_law.specs.declared.objects.Object.{Object}
use Rattle.forest_law.specs.declared.objects.Object.TheVariants as object
use Rattle.forest_law.specs.State.{ForestState}
use Rattle.forest_law.specs.Law.{IsLawful, Follows}
use Rattle.forest_law.specs.Opening.{root_head, empty_page, new_frame, first_frame, first_tree, IsFirstPool}

-- the page of index 0 with the one row, at place 0
abbrev pub leaf_with : FieldList → List ℕ → PageRows
leaf_with key value =
    record {
      head = root_head 0 (length key);
      rows = placed_row 0 key (Bytes value) ∷ [];
    }

-- the list with the one put of the row, made by pass 0
abbrev pub list_with : FieldList → List ℕ → Columns → Entries
list_with key value columns =
    record { change = record { change = Put key value; columns = columns }; by = 0 } ∷ []

-- a space of one index, one page and one partition, for keys of so many fields
abbrev pub one_index : ℕ → Shape
one_index fields = record {
  indexes = 1;
  fields = fields ∷ [];
  pages = 1;
  parts = 1;
  blocks = 1;
  nodes = 0;
  fold_bits = 1;
}

-- the put of a row, with some columns
abbrev pub put_of : FieldList → List ℕ → Columns → MadeChange
put_of key value columns = record { change = Put key value; columns = columns }

-- the frame of the root before the put
abbrev pub root_before : (clock : ℕ) → FieldList → Frame
root_before clock key = new_frame clock (Some (empty_page 0 (length key)))

-- the frame of the root after the put: it has the row, and all else is as before
abbrev pub root_after : (clock : ℕ) → FieldList → List ℕ → Frame
root_after clock key value = new_frame clock (Some (leaf_with key value))

-- of four objects the first and the last are in hand, the pool and a frame
abbrev pub pool_in_hand : Pool → Frame → List (Option Object)
pool_in_hand pool f = Some (object.Pool pool) ∷ None ∷ None ∷ Some (object.Frame f) ∷ []

-- of four objects the last is in hand, a frame
abbrev pub frame_in_hand : Frame → List (Option Object)
frame_in_hand f = None ∷ None ∷ None ∷ Some (object.Frame f) ∷ []

-- the pool, the tree of the one index, the one partition, and a frame
abbrev pub objects_with : Pool → Frame → List Object
objects_with pool f = object.Pool pool
    ∷ object.Tree (first_tree 0)
    ∷ object.Part (empty_part 0 1)
    ∷ object.Frame f
    ∷ []

-- the state after the root was restored, with this pool, and the put was made
abbrev pub state_after : (clock : ℕ) → Pool → FieldList → List ℕ → Columns → List ℕ
    → (most passes : ℕ) → ForestState
state_after clock pool key value columns latches most passes = record {
  shape = one_index (length key);
  objects = objects_with pool (root_after clock key value);
  latches = latches;
  lists = list_with key value columns ∷ [];
  max_changes = most;
  passes = passes;
}

-- the root's page can come from its image in the first pool to the frame of block 0, which is at
-- the clock of all. That follows, and the state after a put on it is lawful
pub record RestoresRoot (clock : ℕ) (pool : Pool) (key : FieldList) : Type 0 where
  pub now : Pool
  pub place : now.place.items ≡ set pool.place.items 0 (InFrame 0)
  pub images : now.images.items ≡ set pool.images.items 0 None
  pub ages : now.ages ≡ pool.ages
  pub follows : Follows (one_index (length key)) (pool_in_hand pool (first_frame clock))
      (pool_in_hand now (root_before clock key)) None
  pub lawful : (value : List ℕ) (columns : Columns) (latches : List ℕ) (most passes : ℕ)
      → IsLawful (state_after clock now key value columns latches most passes)

-- a restore of the root follows, and so does the put on it, and the state after both is lawful,
-- whatever the clock of all frames is, and the key, if that has a field
pub record OnePutIsLawful : Type 0 where
  pub restores : (clock : ℕ) (pool : Pool) (key : FieldList) → 1 ≤ length key
      → IsFirstPool (one_index (length key)) pool → RestoresRoot clock pool key
  pub follows : (clock : ℕ) (key : FieldList) (value : List ℕ) (columns : Columns)
      → Follows (one_index (length key)) (frame_in_hand (root_before clock key))
      (frame_in_hand (root_after clock key value)) (Some (0, put_of key value columns))
