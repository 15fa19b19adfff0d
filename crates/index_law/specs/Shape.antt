-- The shape of a space of indexes.
use Rattle.std.specs.Prelude.{ℕ, List, [], length}
use Rattle.map_history.specs.declared.sizes.Sizes.{Sizes}

-- how many there are of each: indexes, with the number of fields of each one's keys, pages,
-- partitions, blocks, nodes of a partition, and bits of a fold
pub record Shape : Type 0 where
  pub indexes : ℕ
  pub fields : List ℕ
  pub pages : ℕ
  pub parts : ℕ
  pub blocks : ℕ
  pub nodes : ℕ
  pub fold_bits : ℕ

-- a shape with nothing
abbrev pub no_shape : Shape
no_shape =
    record {
      indexes = 0;
      fields = [];
      pages = 0;
      parts = 0;
      blocks = 0;
      nodes = 0;
      fold_bits = 0;
    }

-- the shape of some sizes, for indexes with so many fields each
abbrev pub shape_for : Sizes → List ℕ → Shape
shape_for sizes fields =
    record {
      indexes = length fields;
      fields = fields;
      pages = sizes.pages;
      parts = sizes.parts;
      blocks = sizes.blocks;
      nodes = sizes.nodes;
      fold_bits = sizes.fold_bits;
    }
