-- What a hashed block asks of the partition of its index.
use Rattle.std.specs.Prelude.{ℕ, ◌≡◌, ◌+◌, ◌≤◌, ◌<◌, ◌%◌, ◌==◌, if◌then◌else◌, Bool, Option, Some, None, is_some, List, [], length}
use Rattle.key_tuple.specs.declared.mode.Params.{Params}
use Rattle.key_tuple.specs.Order.{FieldList}
use Rattle.key_tuple.specs.Fold.{fold_of, asked_fields}
use Rattle.learning.specs.declared.event.BlockFigures.{BlockFigures}
use Rattle.index_page.specs.Page.{PageRows}
use Rattle.chain_arena.specs.declared.node.Node.{Node}
use Rattle.chain_arena.specs.Bag.{HasNode}
use Rattle.hash_partition.specs.Part.{Part}
use Rattle.hash_law.specs.Entries.{entries, NodesAt}

-- a block as the hash sees it: its page, if it has one, how it is advised and hashed, and the index
-- that it is hashed for
pub record HashBlock : Type 0 where
  pub page : Option PageRows
  pub figures : BlockFigures
  pub hashed : Option ℕ

-- the partition of an index, of so many
abbrev pub part_for : ℕ → ℕ → ℕ
part_for parts index = index % parts

-- whether a block counts as hashed, where its index has this partition
abbrev pub counts_as_hashed : Part → HashBlock → Bool
counts_as_hashed part block = is_some block.hashed

-- the folds of keys: of an index, by the parameters that it is hashed with
abbrev pub Folds : Type 0
Folds = ℕ → Params → FieldList → ℕ

-- the folds that are hashes of keys, cut to so many bits
abbrev pub folds_of : ℕ → Folds
folds_of bits index params key = fold_of index key params bits

module _ (folds : Folds) (parts : ℕ) where
  -- the entries in partition k of the block b, with this page, hashed for this index and so
  abbrev pub entries_owed : (k b : ℕ) → Option PageRows → Option ℕ → Option Params → List Node
  entries_owed k b None hashed built = []
  entries_owed k b (Some page) None built = []
  entries_owed k b (Some page) (Some index) None = []
  entries_owed k b (Some page) (Some index) (Some params) =
      if part_for parts index == k then entries params.left (folds index params) b page.rows else []

  -- the nodes that partition k owes the block b
  abbrev pub due : (k b : ℕ) → Part → HashBlock → List Node
  due k b part block = if counts_as_hashed part block
      then entries_owed k b block.page block.hashed block.figures.built else []

  -- partition k has the nodes that it owes the block b, and no others of it
  pub record IsExact (k b : ℕ) (part : Part) (block : HashBlock) : Type 0 where
    pub nodes : NodesAt b part.nodes (due k b part block)

-- the parameters ask for no more fields than the page has, if there is one
abbrev pub AskFew : Option PageRows → Params → Type 0
AskFew None params = Unit {0}
AskFew (Some page) params = asked_fields params ≤ page.head.fields

-- the block has a leaf of this index
pub record HasLeafOf (block : HashBlock) (index : ℕ) : Type 0 where
  pub page : PageRows
  pub page_is : block.page ≡ Some page
  pub leaf : page.head.level ≡ 0
  pub index_is : page.head.index ≡ index

-- a block is hashed for an index exactly where it is hashed somehow, and then it has a leaf of that
-- index; neither this nor its advice asks for more fields than its page has
pub record IsTidy (block : HashBlock) : Type 0 where
  pub both : is_some block.hashed ≡ is_some block.figures.built
  pub leaf : (index : ℕ) → block.hashed ≡ Some index → HasLeafOf block index
  pub built : (params : Params) → block.figures.built ≡ Some params → AskFew block.page params
  pub advice : AskFew block.page block.figures.advice

-- a partition has so many nodes, entered or spare, and each is of one of the blocks
pub record IsPartInOrder (nodes blocks : ℕ) (part : Part) : Type 0 where
  pub room : length part.nodes + part.spare ≡ nodes
  pub known : (n : Node) → HasNode part.nodes n → n.block < blocks

-- the hash is exact: each block is tidy, each partition is in order, and each partition has of each
-- block what it owes it
pub record AreHashed (folds : Folds) (parts nodes blocks : ℕ) (part_at : ℕ → Option Part)
    (block_at : ℕ → Option HashBlock) : Type 0 where
  pub tidy : (b : ℕ) (x : HashBlock) → block_at b ≡ Some x → IsTidy x
  pub sound : (k : ℕ) (p : Part) → part_at k ≡ Some p → IsPartInOrder nodes blocks p
  pub exact : (k b : ℕ) (p : Part) (x : HashBlock) → part_at k ≡ Some p → block_at b ≡ Some x
      → IsExact folds parts k b p x
