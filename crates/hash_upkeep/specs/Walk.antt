-- A walk along the rows of a page, from node to node.
use Rattle.std.specs.Prelude.{ℕ, ◌≡◌, ◌==◌, if◌then◌else◌, Bool, true, false, Option, Some, None, List, [], ◌∷◌}
use Rattle.index_page.specs.Rows.{Row}
use Rattle.chain_arena.specs.declared.node.Node.{Node}
use Rattle.hash_law.specs.Entries.{first_or, firsts, lasts}
use Rattle.hash_upkeep.specs.declared.hashing.Hashing.{Hashing}
use Rattle.hash_upkeep.specs.declared.walk.RowWalk.{RowWalk}
use Rattle.hash_upkeep.specs.Hashing.{row_nodes}

-- the rows from the one at a place on
abbrev pub rows_starting : ℕ → List Row → List Row
rows_starting place [] = []
rows_starting place (x ∷ xs) = if x.place == place then x ∷ xs else rows_starting place xs

-- the nodes of the rows from that of a node on; none where there is no node
abbrev pub nodes_from_node : Hashing → List Row → Option Node → List Node
nodes_from_node how rows None = []
nodes_from_node how rows (Some m) = row_nodes how (rows_starting m.place rows)

-- the entries among nodes that follow one, if it is there
abbrev pub entries_behind : Bool → Option Node → List Node → List Node
entries_behind true passed ms = firsts passed ms
entries_behind false passed ms = lasts ms None

-- the entries that a walk has still ahead
abbrev pub entries_ahead : Hashing → List Row → RowWalk → List Node
entries_ahead how rows walk =
    entries_behind how.params.left walk.passed (nodes_from_node how rows walk.ahead)

-- the node ahead is that of the row at its place
abbrev pub IsOnWalk : Hashing → List Row → RowWalk → Type 0
IsOnWalk how rows walk = first_or None (nodes_from_node how rows walk.ahead) ≡ walk.ahead
