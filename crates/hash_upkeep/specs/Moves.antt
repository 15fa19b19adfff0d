-- How two blocks are hashed between which rows move, and what a partition answers.
use Rattle.std.specs.Prelude.{ℕ, ◌≡◌, ◌+◌, ◌==◌, if◌then◌else◌, Option, Some, None, List, [], ◌++◌, length}
use Rattle.index_page.specs.Page.{PageRows}
use Rattle.chain_arena.specs.declared.node.Node.{Node}
use Rattle.hash_partition.specs.Part.{Part}
use Rattle.hash_upkeep.specs.declared.hashing.Hashing.{Hashing}
use Rattle.hash_upkeep.specs.declared.moves.Move.{Move}
use Rattle.hash_upkeep.specs.declared.upkeep.Upkeep.{Upkeep}
use Rattle.hash_upkeep.specs.Hashing.{hashing_if, nodes_if, entries_if, CanHashIf}
use Rattle.hash_upkeep.specs.Cover.{AreCovered, RenewsBoth}
use Rattle.hash_upkeep.specs.Upkeep.{upkeep_by}

-- how the block that gave rows was hashed
abbrev pub from_was : Move → Option Hashing
from_was m = hashing_if m.index m.from m.bits m.from_built

-- how the block that took rows was hashed
abbrev pub to_was : Move → Option Hashing
to_was m = hashing_if m.index m.to m.bits m.to_built

-- how the block that gave rows is hashed then: as before, if it still has a leaf
abbrev pub from_then : Move → (level : ℕ) → Option Hashing
from_then m level = if level == 0 then from_was m else None

-- the parameters of the first, or else of the second
abbrev pub built_or : {A : Type 0} → Option A → Option A → Option A
built_or None other = other
built_or (Some params) other = Some params

-- how the block that took rows is hashed then: as before, or else as the other was
abbrev pub to_then : Move → Option Hashing
to_then m = hashing_if m.index m.to m.bits (built_or m.to_built m.from_built)

-- each page can be hashed as its block was, and the page that took rows as the other block was
pub record CanMove (m : Move) (from to : PageRows) : Type 0 where
  pub from_page : CanHashIf (from_was m) m.from from
  pub moved_rows : CanHashIf (from_was m) m.from to
  pub to_page : CanHashIf (to_was m) m.to to

-- each node of the block that gave rows has the fold of a row of either page, and each of the block
-- that took them that of a row of its page
pub record AreBothCovered (m : Move) (from to : PageRows) (nodes : List Node) : Type 0 where
  pub gave : AreCovered m.from nodes
      (nodes_if (from_was m) from.rows ++ nodes_if (from_was m) to.rows)
  pub took : AreCovered m.to nodes (nodes_if (to_was m) to.rows)

-- once what both blocks had is out, which `out` shows, the spare nodes tell the answer
pub record IsMoveAnswer (m : Move) (from to : PageRows) (old : Part)
    (answer : Upkeep) : Type 0 where
  pub out : Part
  pub empties : RenewsBoth m.from [] m.to [] old out
  pub is : answer ≡ upkeep_by (length (entries_if (from_then m from.head.level) from.rows)
      + length (entries_if (to_then m) to.rows)) out.spare
