-- What a partition owes a block, and to what its nodes lead.
use Rattle.std.proofs.Common.{◌≡◌, ℕ, ◌≤◌, ◌==◌, Bool, true, false, if◌then◌else◌, Option, Some, None, List, [], refl, ap, ◌∙◌, arith}
use Rattle.std.proofs.lemmas.Bool.Decides.{nat_tests}
use Rattle.key_tuple.specs.declared.mode.Params.{Params}
use Rattle.index_page.specs.Page.{PageRows}
use Rattle.chain_arena.specs.declared.node.Node.{Node}
use Rattle.chain_arena.specs.Bag.{count_of}
use Rattle.hash_partition.specs.Part.{Part}
use Rattle.hash_law.specs.Entries.{entries}
use Rattle.hash_law.specs.Laws.{NamesRow}
use Rattle.hash_law.specs.Sums.{AreOfBlock, AreAllDue}
use Rattle.hash_law.specs.Blocks.{Folds, HashBlock, part_for, counts_as_hashed, entries_owed, due}
use Rattle.hash_law.specs.BlockLaws.{NodesLeadToRows, SharesAddUp}
use Rattle.hash_law.proofs.RowLemmas.{nodes_name}
use Rattle.hash_law.proofs.SumLemmas.{add_up}

-- how a block is hashed that is owed a node, and the row that the node names
record IsOwed (folds : Folds) (parts k b : ℕ) (page : Option PageRows) (hashed : Option ℕ)
    (built : Option Params) (n : Node) : Type 0 where
  index : ℕ
  params : Params
  leaf : PageRows
  page_is : page ≡ Some leaf
  hashed_is : hashed ≡ Some index
  built_is : built ≡ Some params
  part : part_for parts index ≡ k
  row : NamesRow (folds index params) b leaf.rows n

module _ (folds : Folds) (parts k b : ℕ) (n : Node) where
  -- a partition that passes the test
  told : (a c : ℕ) → (a == c) ≡ true → a ≡ c
  told a c e = grind (arith, nat_tests)

  -- a node that stands where a test has passed
  owed_by : (index : ℕ) (params : Params) (page : PageRows) (t : Bool)
      → (t ≡ true → part_for parts index ≡ k)
      → 1 ≤ count_of n (if t then entries params.left (folds index params) b page.rows else [])
      → IsOwed folds parts k b (Some page) (Some index) (Some params) n
  owed_by index params page true tells more = record {
    index = index;
    params = params;
    leaf = page;
    page_is = refl;
    hashed_is = refl;
    built_is = refl;
    part = tells refl;
    row = nodes_name params.left (folds index params) b page.rows n more;
  }
  owed_by index params page false tells more = absurd (omega (arith, more))

  -- a node among a block's entries
  owed_of : (page : Option PageRows) (hashed : Option ℕ) (built : Option Params)
      → 1 ≤ count_of n (entries_owed folds parts k b page hashed built)
      → IsOwed folds parts k b page hashed built n
  owed_of None hashed built more = absurd (omega (arith, more))
  owed_of (Some page) None built more = absurd (omega (arith, more))
  owed_of (Some page) (Some index) None more = absurd (omega (arith, more))
  owed_of (Some page) (Some index) (Some params) more =
      owed_by index params page (part_for parts index == k) (told (part_for parts index) k) more

  -- a node that stands where a test may have failed stands where it passes
  passes : (t : Bool) (es : List Node) → 1 ≤ count_of n (if t then es else []) → 1 ≤ count_of n es
  passes true es more = more
  passes false es more = absurd (omega (arith, more))

  -- a node that a block is owed
  owed : (p : Part) (x : HashBlock) → 1 ≤ count_of n (due folds parts k b p x)
      → IsOwed folds parts k b x.page x.hashed x.figures.built n
  owed p x more =
      owed_of x.page x.hashed x.figures.built
      (passes (counts_as_hashed p x)
      (entries_owed folds parts k b x.page x.hashed x.figures.built) more)

-- what a block is owed is its own
own_due : (folds : Folds) (parts k b : ℕ) (p : Part) (x : HashBlock)
    → AreOfBlock b (due folds parts k b p x)
own_due folds parts k b p x n has =
    ap (λ (m : Node). m.block) (owed folds parts k b n p x has).row.node

-- a node leads to a row
pub nodes_lead : NodesLeadToRows
nodes_lead folds parts nodes blocks part_at block_at law k p x n is_part is_block has =
    let exact = (law.exact k n.block p x is_part is_block).nodes n refl in
    let o = owed folds parts k n.block n p x (omega (arith, exact, has)) in
    let l = (law.tidy n.block x is_block).leaf o.index o.hashed_is in
    let same : o.leaf ≡ l.page = cc (o.page_is, l.page_is) in
    record {
      index = o.index;
      params = o.params;
      page = o.leaf;
      hashed = o.hashed_is;
      part = o.part;
      built = o.built_is;
      page_is = o.page_is;
      leaf = ap (λ (z : PageRows). z.head.level) same ∙ l.leaf;
      index_is = ap (λ (z : PageRows). z.head.index) same ∙ l.index_is;
      row = o.row;
    }

-- shares add up
pub shares : SharesAddUp
shares folds parts nodes blocks k p block_of sound exact =
    let owes : ℕ → List Node = λ b. due folds parts k b p (block_of b) in
    let all : AreAllDue owes blocks p.nodes = record {
      own = λ b. own_due folds parts k b p (block_of b);
      exact = λ b lt. (exact b lt).nodes;
      known = sound.known;
    } in
    let sum = add_up owes blocks p.nodes all in
    record { bag = sum.bag; room = omega (arith, sum.number, sound.room) }
