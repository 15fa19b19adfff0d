-- What a caller needs of rows that come, go, move and are written, and of the law of blocks.
use Rattle.std.specs.Prelude.{ℕ, ◌≡◌, Some, List, []}
use Rattle.key_tuple.specs.declared.mode.Params.{Params}
use Rattle.index_page.specs.Rows.{Row}
use Rattle.index_page.specs.Page.{PageRows, IsPageInOrder}
use Rattle.index_page.specs.Changes.{Inserts, Deletes, Sets, rows_without}
use Rattle.index_page.specs.Moves.{MovesTail, MovesAll, Reorganises}
use Rattle.chain_arena.specs.declared.node.Node.{Node}
use Rattle.hash_partition.specs.Part.{Part}
use Rattle.hash_law.specs.Entries.{NodesAt}
use Rattle.hash_law.specs.Blocks.{folds_of, HashBlock, part_for, due}
use Rattle.hash_upkeep.specs.declared.hashing.Hashing.{Hashing}
use Rattle.hash_upkeep.specs.declared.moves.Move.{Move}
use Rattle.hash_upkeep.specs.Hashing.{row_nodes, row_entries, entries_if}
use Rattle.hash_upkeep.specs.Cover.{AreCovered}
use Rattle.hash_upkeep.specs.Moves.{from_was, to_was, AreBothCovered}

-- a page is, without a row that came, what it was, and where a row went, what it is without it
pub record RowsComeAndGo : Type 0 where
  pub came : (before after : PageRows) (row : Row) → Inserts before after row
      → rows_without row.place after.rows ≡ before.rows
  pub went : (before after : PageRows) (place : ℕ) → IsPageInOrder before
      → Deletes before after place → after.rows ≡ rows_without place before.rows

-- a value that is written in its place changes no entry
abbrev pub WrittenRowsKeepEntries : Type 0
WrittenRowsKeepEntries =
    (how : Hashing) (before after : PageRows) (place : ℕ) (value : List ℕ)
    → Sets before after place place value → row_entries how after.rows ≡ row_entries how before.rows

-- the nodes of a block that are exact have the folds of its rows, also once these are reorganised
pub record ExactNodesAreCovered (how : Hashing) (nodes : List Node) : Type 0 where
  pub here : (rows : List Row) → NodesAt how.block nodes (row_entries how rows)
      → AreCovered how.block nodes (row_nodes how rows)
  pub anew : (before after : PageRows) → Reorganises before after
      → NodesAt how.block nodes (row_entries how before.rows)
      → AreCovered how.block nodes (row_nodes how after.rows)

-- both blocks' nodes are exact
pub record AreBothExact (m : Move) (from to : PageRows) (nodes : List Node) : Type 0 where
  pub gave : NodesAt m.from nodes (entries_if (from_was m) from.rows)
  pub took : NodesAt m.to nodes (entries_if (to_was m) to.rows)

-- nodes that were exact before rows moved have the folds of the rows of both pages; where all moved,
-- whatever the page that gave them has now
pub record MovesAreCovered (m : Move) (nodes : List Node) : Type 0 where
  pub tail : (from from' to to' : PageRows) (first : ℕ) → to.rows ≡ []
      → MovesTail from from' to to' first → AreBothExact m from to nodes
      → AreBothCovered m from' to' nodes
  pub all : (from from' to to' given : PageRows) → MovesAll from from' to to'
      → AreBothExact m from to nodes → AreBothCovered m given to' nodes

-- what a partition owes a block that is hashed for one of its indexes are the entries of its rows
abbrev pub EntriesAreOwed : Type 0
EntriesAreOwed = (bits parts k b : ℕ) (part : Part) (x : HashBlock) (page : PageRows)
    (index : ℕ) (params : Params) → x.page ≡ Some page → x.hashed ≡ Some index
    → x.figures.built ≡ Some params → part_for parts index ≡ k
    → due (folds_of bits) parts k b part x
    ≡ row_entries (record { index = index; block = b; params = params; bits = bits }) page.rows
