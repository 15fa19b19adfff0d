-- The laws of hashed blocks and their partitions.
use Rattle.std.specs.Prelude.{ℕ, ◌≡◌, ◌≢◌, ◌+◌, ◌<◌, Option, Some, None, [], length}
use Rattle.key_tuple.specs.declared.mode.Params.{Params}
use Rattle.index_page.specs.Page.{PageRows}
use Rattle.chain_arena.specs.declared.node.Node.{Node}
use Rattle.chain_arena.specs.Bag.{HasNode, SameBag}
use Rattle.hash_partition.specs.Part.{Part}
use Rattle.hash_law.specs.Laws.{NamesRow}
use Rattle.hash_law.specs.Sums.{all_due}
use Rattle.hash_law.specs.Blocks.{Folds, HashBlock, part_for, due, IsExact, IsPartInOrder, AreHashed}

-- a block that is hashed for an index of partition k, and has a leaf of that index with a row that the
-- node names
pub record HasNamedRow (folds : Folds) (parts k : ℕ) (block : HashBlock) (n : Node) : Type 0 where
  pub index : ℕ
  pub params : Params
  pub page : PageRows
  pub hashed : block.hashed ≡ Some index
  pub part : part_for parts index ≡ k
  pub built : block.figures.built ≡ Some params
  pub page_is : block.page ≡ Some page
  pub leaf : page.head.level ≡ 0
  pub index_is : page.head.index ≡ index
  pub row : NamesRow (folds index params) n.block page.rows n

-- where the hash is exact, a partition's node leads to a row of its block's leaf
abbrev pub NodesLeadToRows : Type 0
NodesLeadToRows = (folds : Folds) (parts nodes blocks : ℕ) (part_at : ℕ → Option Part)
    (block_at : ℕ → Option HashBlock)
    → AreHashed folds parts nodes blocks part_at block_at
    → (k : ℕ) (p : Part) (x : HashBlock) (n : Node) → part_at k ≡ Some p
    → block_at n.block ≡ Some x → HasNode p.nodes n → HasNamedRow folds parts k x n

-- a block that isn't hashed, or for an index of another partition, is owed nothing
pub record OthersAreOwedNothing : Type 0 where
  pub unhashed : (folds : Folds) (parts k b : ℕ) (p : Part) (x : HashBlock) → x.hashed ≡ None
      → due folds parts k b p x ≡ []
  pub elsewhere : (folds : Folds) (parts k b : ℕ) (p : Part) (x : HashBlock) (index : ℕ)
      → x.hashed ≡ Some index → part_for parts index ≢ k → due folds parts k b p x ≡ []

-- what a partition owes a block hangs on its page, its index and its parameters alone: neither on its
-- advice nor on how often that would have helped
abbrev pub FiguresAreOwedNothing : Type 0
FiguresAreOwedNothing = (folds : Folds) (parts k b : ℕ) (p q : Part) (x y : HashBlock)
    → y.page ≡ x.page → y.hashed ≡ x.hashed → y.figures.built ≡ x.figures.built
    → due folds parts k b q y ≡ due folds parts k b p x

-- the nodes of a partition are what it owes all blocks together, and with the spare ones they are as
-- many as it has
pub record HasItsShare (folds : Folds) (parts nodes blocks k : ℕ) (p : Part)
    (block_of : ℕ → HashBlock) : Type 0 where
  pub bag : SameBag p.nodes (all_due (λ b. due folds parts k b p (block_of b)) blocks)
  pub room : length (all_due (λ b. due folds parts k b p (block_of b)) blocks) + p.spare ≡ nodes

-- a partition in order that is exact block by block has its share
abbrev pub SharesAddUp : Type 0
SharesAddUp = (folds : Folds) (parts nodes blocks k : ℕ) (p : Part) (block_of : ℕ → HashBlock)
    → IsPartInOrder nodes blocks p
    → ((b : ℕ) → b < blocks → IsExact folds parts k b p (block_of b))
    → HasItsShare folds parts nodes blocks k p block_of
