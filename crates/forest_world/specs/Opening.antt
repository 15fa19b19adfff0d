-- What a space of trees is opened on.
use Rattle.std.specs.Prelude.{ℕ, List, length}
use Rattle.latch_law.specs.declared.knows.Terms.{Terms}
use Rattle.map_history.specs.declared.sizes.Sizes.{Sizes}
use Rattle.index_law.specs.Shape.{Shape, shape_for}
use Rattle.forest_law.specs.Numbers.{frame_id, frames_of}

-- the terms of a space of these sizes, for indexes with so many fields each, and so many passes: an
-- object for the pool, for each index, for each partition and for each block
abbrev pub forest_terms : Sizes → List ℕ → ℕ → Terms Shape
forest_terms sizes fields passes = let shape = shape_for sizes fields in record {
  shape = shape;
  objects = frame_id shape (frames_of shape);
  indexes = length fields;
  max_changes = sizes.max_changes;
  passes = passes;
}
