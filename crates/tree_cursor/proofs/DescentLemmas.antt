-- A cursor may be stored where a descent stands.
use Rattle.std.proofs.Common.{◌≡◌, ℕ, Option, Some, None, IsSome, is_some, List, ap, subst, ◌∙◌}
use Rattle.list_facts.proofs.Places.{same_some}
use Rattle.key_tuple.specs.Order.{FieldList}
use Rattle.key_tuple.specs.declared.mode.Mode.{Mode}
use Rattle.latch_space.specs.Passes.{view}
use Rattle.index_page.specs.Rows.{Row, find_row, first_of_rows, IsAt}
use Rattle.forest_world.specs.Held.{TreePass}
use Rattle.tree_descent.specs.declared.descending.Leaf.{Leaf}
use Rattle.tree_descent.specs.Descents.{Descends}
use Rattle.tree_neighbours.proofs.PairLemmas.{leaf_page}
use Rattle.tree_cursor.specs.Storing.{MayStore}

-- a row stands at a row's place
pub row_there : (rows : List Row) (place : ℕ) (o : Option Row) → IsAt rows (Some place) o
    → IsSome (find_row place rows)
row_there rows place None at = absurd cc
row_there rows place (Some row) at =
    ap is_some (ap (λ n. find_row n rows) (same_some place row.place at.0) ∙ at.1)

module _ (p q : TreePass) (i : ℕ) (mode : Mode) (tuple : FieldList) (leaf : Leaf)
    (down : Descends p i mode tuple leaf q) where
  -- before the first row that its cut admits
  pub may_store_row : (place : ℕ) → leaf.spot.after ≡ Some place
      → MayStore (view q) leaf.block (Some place)
  may_store_row place is = record {
    index = i;
    holds = leaf_page p q i mode tuple leaf down;
    stand = row_there down.is.page.is.page.rows place (first_of_rows down.is.finds.right)
        (subst (λ o. IsAt down.is.page.is.page.rows o (first_of_rows down.is.finds.right)) is
        down.is.finds.after_at);
  }

  -- or, where it admits none, before the leaf's high key
  pub may_store_end : IsSome down.frame.high → MayStore (view q) leaf.block None
  may_store_end high = record { index = i; holds = leaf_page p q i mode tuple leaf down; stand = high }
