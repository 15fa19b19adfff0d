-- What one row more or less changes among the entries of its block.
use Rattle.std.specs.Prelude.{ℕ, ◌≡◌, List, ◌∷◌, ◌++◌, option_to_list}
use Rattle.index_page.specs.Rows.{Row}
use Rattle.chain_arena.specs.declared.node.Node.{Node}
use Rattle.hash_law.specs.Changes.{leader, follower, brought_in, driven_out}
use Rattle.hash_upkeep.specs.declared.few.Few.{Few}
use Rattle.hash_upkeep.specs.declared.change.RowChange.{RowChange}
use Rattle.hash_upkeep.specs.declared.hashing.Hashing.{Hashing}
use Rattle.hash_upkeep.specs.Hashing.{row_node, row_nodes}

-- at most two nodes as a list
abbrev pub few_nodes : Few → List Node
few_nodes few = option_to_list few.first ++ option_to_list few.second

-- what a row between others brings in
abbrev pub row_brings : Hashing → (left : List Row) → Row → (right : List Row) → List Node
row_brings how left row right =
    let xs = row_nodes how left in let ys = row_nodes how right in
    brought_in (leader how.params.left xs ys) (row_node how row) (follower how.params.left xs ys)

-- what it drives out
abbrev pub row_drives : Hashing → (left : List Row) → Row → (right : List Row) → List Node
row_drives how left row right =
    let xs = row_nodes how left in let ys = row_nodes how right in
    driven_out (leader how.params.left xs ys) (row_node how row) (follower how.params.left xs ys)

-- what the row at a place brings in and drives out among the others
pub record ChangesAt (how : Hashing) (rows : List Row) (place : ℕ)
    (change : RowChange) : Type 0 where
  pub left : List Row
  pub row : Row
  pub right : List Row
  pub parts : rows ≡ left ++ row ∷ right
  pub place_is : row.place ≡ place
  pub brought : few_nodes change.brought ≡ row_brings how left row right
  pub driven : few_nodes change.driven ≡ row_drives how left row right
