-- How a leaf is hashed, and the nodes and entries of its rows.
use Rattle.std.specs.Prelude.{ℕ, ◌≡◌, ◌≤◌, Option, Some, None, List, []}
use Rattle.key_tuple.specs.declared.mode.Params.{Params}
use Rattle.key_tuple.specs.Fold.{asked_fields}
use Rattle.index_page.specs.Rows.{Row}
use Rattle.index_page.specs.Page.{PageRows}
use Rattle.chain_arena.specs.declared.node.Node.{Node}
use Rattle.hash_law.specs.Blocks.{folds_of}
use Rattle.hash_law.specs.Entries.{node_of, nodes_of, entries}
use Rattle.hash_upkeep.specs.declared.hashing.Hashing.{Hashing}

-- the node of a row that is hashed so
abbrev pub row_node : Hashing → Row → Node
row_node how row = node_of (folds_of how.bits how.index how.params) how.block row

-- the nodes of rows that are hashed so
abbrev pub row_nodes : Hashing → List Row → List Node
row_nodes how rows = nodes_of (folds_of how.bits how.index how.params) how.block rows

-- the entries of a block with these rows that is hashed so
abbrev pub row_entries : Hashing → List Row → List Node
row_entries how rows =
    entries how.params.left (folds_of how.bits how.index how.params) how.block rows

-- a page that can be hashed so: it has the fields that are asked for, and folds have 1 to 64 bits
pub record CanHash (how : Hashing) (page : PageRows) : Type 0 where
  pub fields : asked_fields how.params ≤ page.head.fields
  pub some : 1 ≤ how.bits
  pub fit : how.bits ≤ 64

-- how a block of an index is hashed, if it is with some parameters
abbrev pub hashing_if : (index block bits : ℕ) → Option Params → Option Hashing
hashing_if index block bits None = None
hashing_if index block bits (Some params) =
    Some (record { index = index; block = block; params = params; bits = bits })

-- how the same block is hashed, if it is with some parameters
abbrev pub as_built : Hashing → Option Params → Option Hashing
as_built how built = hashing_if how.index how.block how.bits built

-- the nodes of rows of a block that may be hashed
abbrev pub nodes_if : Option Hashing → List Row → List Node
nodes_if None rows = []
nodes_if (Some how) rows = row_nodes how rows

-- the entries of a block that may be hashed
abbrev pub entries_if : Option Hashing → List Row → List Node
entries_if None rows = []
entries_if (Some how) rows = row_entries how rows

-- where the block is hashed, it is the one with this number, and a page can be hashed as it is
abbrev pub CanHashIf : Option Hashing → ℕ → PageRows → Type 0
CanHashIf None block page = Unit {0}
CanHashIf (Some how) block page = (how.block ≡ block) × CanHash how page
