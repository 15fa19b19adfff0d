-- A way down to the leaf of a whole key, and what it teaches.
use Rattle.std.specs.Prelude.{ℕ, ◌≡◌}
use Rattle.key_tuple.specs.Order.{FieldList}
use Rattle.key_tuple.specs.declared.mode.Mode.{Mode}
use Rattle.key_tuple.specs.declared.mode.Mode.TheVariants.{Ge}
use Rattle.learning.specs.declared.event.Figures.{Figures}
use Rattle.map_history.specs.declared.columns.Note.{Note}
use Rattle.search_info.specs.declared.knows.Knows.{Knows}
use Rattle.index_page.specs.declared.spot.Spot.{Spot}
use Rattle.index_page.specs.Search.{Finds}
use Rattle.forest_world.specs.Held.{TreePass}
use Rattle.tree_descent.specs.declared.descending.Leaf.{Leaf}
use Rattle.tree_descent.specs.Descents.{Descends}
use Rattle.leaf_search.specs.Lessons.{Teaches}

-- how far a tuple agrees with the rows beside its position
abbrev pub figures_at : Spot → Figures
figures_at spot = record { low = spot.low; up = spot.up }

-- a way led down with the mode, which was learnt from, and the spot is that of the key itself
pub record SearchesDown (p : TreePass) (l : Knows) (i : ℕ) (mode : Mode) (key : FieldList)
    (leaf : Leaf) (told : Note) (q : TreePass) (m : Knows) : Type 0 where
  pub between : TreePass
  pub way : Leaf
  pub went : Descends p i mode key way between
  pub taught : Teaches between l i way.block (figures_at way.spot) told q m
  pub block_is : leaf.block ≡ way.block
  pub finds : Finds Ge key went.is.page.is.page.rows leaf.spot
