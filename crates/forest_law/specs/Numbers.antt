-- The numbers of the objects. Nothing else knows their order.
use Rattle.std.specs.Prelude.{ℕ, ◌≡◌, ◌≤◌, ◌+◌, length}
use Rattle.index_law.specs.Shape.{Shape}
use Rattle.forest_law.specs.declared.layout.ForestLayout.TheInside.{Inside}

-- the shape that a layout stands for
abbrev pub shape_of_layout : Inside → Shape
shape_of_layout l = record {
  indexes = l.indexes;
  fields = l.fields.items;
  pages = l.pages;
  parts = l.parts;
  blocks = l.blocks;
  nodes = l.nodes;
  fold_bits = l.fold_bits;
}

-- a layout has as many numbers of fields as indexes, and its partitions have cells
pub record IsLayout (l : Inside) : Type 0 where
  pub fields : length l.fields.items ≡ l.indexes
  pub cells : 1 ≤ l.cells

-- the number of the pool's object
abbrev pub pool_id : ℕ
pool_id = 0

-- the number of an index's tree
abbrev pub tree_id : ℕ → ℕ
tree_id index = 1 + index

-- the number of a partition
abbrev pub part_id : Shape → ℕ → ℕ
part_id shape part = 1 + shape.indexes + part

-- the number of a block's frame
abbrev pub frame_id : Shape → ℕ → ℕ
frame_id shape block = 1 + shape.indexes + shape.parts + block

-- how many frames there are: one for each block
abbrev pub frames_of : Shape → ℕ
frames_of shape = shape.blocks
