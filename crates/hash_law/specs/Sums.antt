-- The bag of a partition: the sum of what is due from each block.
use Rattle.std.specs.Prelude.{ℕ, zero, suc, ◌≡◌, ◌≢◌, ◌+◌, ◌≤◌, ◌<◌, ◌↔◌, Bool, List, [], ◌++◌, length}
use Rattle.key_tuple.specs.Order.{FieldList}
use Rattle.index_page.specs.Rows.{Row}
use Rattle.chain_arena.specs.declared.node.Node.{Node}
use Rattle.chain_arena.specs.Bag.{count_of, HasNode, SameBag, SameOutsideBlock}
use Rattle.hash_law.specs.Entries.{entries, NodesAt}
use Rattle.hash_law.specs.Changes.{Exchanges}

-- each of the nodes is the block's
abbrev pub AreOfBlock : ℕ → List Node → Type 0
AreOfBlock block nodes = (n : Node) → HasNode nodes n → n.block ≡ block

-- what a block with these rows has entered is its own
abbrev pub EntriesAreOwn : Type 0
EntriesAreOwn = (left : Bool) (fold : FieldList → ℕ) (block : ℕ) (rows : List Row)
    → AreOfBlock block (entries left fold block rows)

-- what is due from the blocks below a number, together
abbrev pub all_due : (ℕ → List Node) → ℕ → List Node
all_due due zero = []
all_due due (suc b) = all_due due b ++ due b

-- of each block the nodes are those that are due, and no other block has any
pub record AreAllDue (due : ℕ → List Node) (blocks : ℕ) (nodes : List Node) : Type 0 where
  pub own : (b : ℕ) → AreOfBlock b (due b)
  pub exact : (b : ℕ) → b < blocks → NodesAt b nodes (due b)
  pub known : (n : Node) → HasNode nodes n → n.block < blocks

-- the nodes are the sum over the blocks, as a bag and in number
pub record AddUp (due : ℕ → List Node) (blocks : ℕ) (nodes : List Node) : Type 0 where
  pub bag : SameBag nodes (all_due due blocks)
  pub number : length nodes ≡ length (all_due due blocks)

-- nodes that are right block by block are the sum over the blocks
abbrev pub BlocksAddUp : Type 0
BlocksAddUp = (due : ℕ → List Node) (blocks : ℕ) (nodes : List Node)
    → AreAllDue due blocks nodes → AddUp due blocks nodes

-- a block's nodes are right in a bag, and some of these nodes are to go and others to come
pub record IsChangeOf (block : ℕ) (due goes comes now old : List Node) : Type 0 where
  pub change : Exchanges due goes comes now
  pub was_own : AreOfBlock block due
  pub is_own : AreOfBlock block now
  pub exact : NodesAt block old due

-- what is to go is there, and once it is gone and the others have come, `now` are right of the block,
-- and no other block's nodes have changed
pub record ChangesAlone (block : ℕ) (old goes comes now : List Node) : Type 0 where
  pub there : (n : Node) → count_of n goes ≤ count_of n old
  pub exact : (new : List Node) → Exchanges old goes comes new → NodesAt block new now
  pub others : (new : List Node) → Exchanges old goes comes new → SameOutsideBlock new old block

-- what one block exchanges, its partition exchanges, and no other block is touched
abbrev pub BlocksChangeAlone : Type 0
BlocksChangeAlone = (block : ℕ) (due goes comes now old : List Node)
    → IsChangeOf block due goes comes now old → ChangesAlone block old goes comes now

-- the same of two blocks at once, as when rows move from one to the other
pub record ChangeTogether (a b : ℕ) (old goes comes first second : List Node) : Type 0 where
  pub there : (n : Node) → count_of n goes ≤ count_of n old
  pub exact : (new : List Node) → Exchanges old goes comes new
      → NodesAt a new first × NodesAt b new second
  pub others : (new : List Node) → Exchanges old goes comes new → (n : Node) → n.block ≢ a
      → n.block ≢ b → count_of n new ≡ count_of n old

-- what two blocks exchange, their partition exchanges, and no other block is touched
abbrev pub BlocksChangeTogether : Type 0
BlocksChangeTogether = (a b : ℕ) (due goes comes now due' goes' comes' now' old : List Node)
    → a ≢ b → IsChangeOf a due goes comes now old → IsChangeOf b due' goes' comes' now' old
    → ChangeTogether a b old (goes ++ goes') (comes ++ comes') now now'

-- the nodes that have to be entered
abbrev pub need_of : List Node → ℕ
need_of comes = length comes

-- the nodes that can be: the spare ones, and as many as go before
abbrev pub spare_after : ℕ → List Node → ℕ
spare_after spare goes = spare + length goes

-- there is room for what comes exactly where all nodes together have it
abbrev pub RoomIsExact : Type 0
RoomIsExact = (old goes comes new : List Node) (spare room : ℕ) → Exchanges old goes comes new
    → length old + spare ≡ room
    → (need_of comes ≤ spare_after spare goes) ↔ (length new ≤ room)
