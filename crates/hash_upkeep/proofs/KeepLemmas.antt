-- What a block's exchange means for its partition.
use Rattle.std.proofs.Common.{◌≡◌, ◌⊎◌, inl, inr, ℕ, ◌≤◌, zero, suc, Bool, true, false, cond, Option, Some, None, List, [], ◌∷◌, ◌++◌, ap, ◌∙◌, arith}
use Rattle.chain_arena.specs.declared.node.Node.{Node}
use Rattle.chain_arena.specs.Bag.{count_of, HasNoBlock, SameOutsideBlock}
use Rattle.hash_partition.specs.Part.{Part, KeepsShape}
use Rattle.index_page.specs.Rows.{Row}
use Rattle.hash_law.specs.Entries.{NodesAt, has_fold, unless_alike, first_or, firsts, lasts, representatives}
use Rattle.hash_law.specs.Changes.{Exchanges}
use Rattle.hash_law.specs.Sums.{AreOfBlock}
use Rattle.hash_law.proofs.RowLemmas.{nodes_of-append, entries_own}
use Rattle.hash_upkeep.specs.declared.hashing.Hashing.{Hashing}
use Rattle.hash_upkeep.specs.declared.upkeep.Upkeep.{Upkeep}
use Rattle.hash_upkeep.specs.declared.upkeep.Upkeep.TheVariants.{Kept, Dropped}
use Rattle.hash_law.specs.Blocks.{folds_of}
use Rattle.hash_upkeep.specs.Hashing.{row_nodes, row_entries}
use Rattle.hash_upkeep.specs.Cover.{count_with, AreCovered, Renews}
use Rattle.hash_upkeep.specs.Upkeep.{IfKept, kept_entries}
use Rattle.hash_upkeep.proofs.CoverLemmas.{count_with-append, has_shares}

pub none_or_some : (k : ℕ) → (k ≡ 0) ⊎ (1 ≤ k)
none_or_some zero = inl (omega arith)
none_or_some (suc k) = inr (omega arith)

-- entries are their block's
pub own_entries : (how : Hashing) (rows : List Row) → AreOfBlock how.block (row_entries how rows)
own_entries how rows =
    entries_own how.params.left (folds_of how.bits how.index how.params) how.block rows

-- what a partition has to know to exchange what a block exchanges
pub record Swaps (block : ℕ) (old goes comes now : List Node) : Type 0 where
  pub there : (n : Node) → count_of n goes ≤ count_of n old
  pub goes_own : AreOfBlock block goes
  pub comes_own : AreOfBlock block comes
  pub after : (new : List Node) → Exchanges old goes comes new → NodesAt block new now

pub swaps : (block : ℕ) (due goes comes now old : List Node) → Exchanges due goes comes now
    → AreOfBlock block due → AreOfBlock block now → NodesAt block old due
    → Swaps block old goes comes now
swaps block due goes comes now old e due_own now_own at = record {
  there = λ n. elim (none_or_some (count_of n goes)) [
    | inl none ↦ omega (arith, none)
    | inr some ↦ omega (
      arith,
      e.there n,
      at n (due_own n (omega (arith, some, e.there n))),
    )
  ];
  goes_own = λ n has. due_own n (omega (arith, has, e.there n));
  comes_own = λ n has. now_own n (omega (arith, has, e.there n, e.counts n));
  after = λ new x n here. omega (arith, x.counts n, e.counts n, at n here);
}

-- a partition that kept up with a change, or dropped the block, has what it should
pub renews_kept : (block : ℕ) (u : Upkeep) (goes comes now : List Node) (old new : Part)
    → Swaps block old.nodes goes comes now
    → IfKept u (Exchanges old.nodes goes comes new.nodes) (HasNoBlock new.nodes block)
    → SameOutsideBlock new.nodes old.nodes block → KeepsShape old new
    → Renews block (kept_entries u now) old new
renews_kept block Kept goes comes now old new s e others shape =
    record { nodes = s.after new.nodes e; others = others; shape = shape }
renews_kept block (Dropped need spare) goes comes now old new s e others shape =
    record { nodes = e; others = others; shape = shape }

-- one node unless something: its fold at most once
unless_fewer : (fold : ℕ) (b : Bool) (m : Node)
    → count_with fold (cond b [] (m ∷ [])) ≤ count_with fold (m ∷ [])
unless_fewer fold true m = omega arith
unless_fewer fold false m = omega arith

firsts_fewer : (fold : ℕ) (q : Option Node) (ms : List Node)
    → count_with fold (firsts q ms) ≤ count_with fold ms
firsts_fewer fold q [] = omega arith
firsts_fewer fold q (m ∷ ms) =
    omega (
      arith,
      firsts_fewer fold (Some m) ms,
      unless_fewer fold (has_fold q m.fold) m,
      count_with-append fold (unless_alike q m) (firsts (Some m) ms),
    )

lasts_fewer : (fold : ℕ) (ms : List Node) (q : Option Node)
    → count_with fold (lasts ms q) ≤ count_with fold ms
lasts_fewer fold [] q = omega arith
lasts_fewer fold (m ∷ ms) q =
    omega (
      arith,
      lasts_fewer fold ms q,
      unless_fewer fold (has_fold (first_or q ms) m.fold) m,
      count_with-append fold (unless_alike (first_or q ms) m) (lasts ms q),
    )

-- no fold is that of more entries than of rows
pub entries_fewer : (left : Bool) (fold : ℕ) (ms : List Node)
    → count_with fold (representatives left ms) ≤ count_with fold ms
entries_fewer true fold ms = firsts_fewer fold None ms
entries_fewer false fold ms = lasts_fewer fold ms None

-- exact nodes have the folds of the rows
pub exact_covers : (how : Hashing) (rows : List Row) (nodes : List Node)
    → NodesAt how.block nodes (row_entries how rows)
    → AreCovered how.block nodes (row_nodes how rows)
exact_covers how rows nodes at n has here =
    omega (
      arith,
      has_shares n (row_entries how rows) (omega (arith, has, at n here)),
      entries_fewer how.params.left n.fold (row_nodes how rows),
    )

-- nodes that have the folds of some rows have those of one row more
pub more_cover : (how : Hashing) (block : ℕ) (rows left : List Row) (row : Row)
    (right : List Row) (nodes : List Node)
    → rows ≡ left ++ row ∷ right → AreCovered block nodes (row_nodes how (left ++ right))
    → AreCovered block nodes (row_nodes how rows)
more_cover how block rows left row right nodes parts covered n has here =
    let fold = folds_of how.bits how.index how.params in
    let all : count_with n.fold (row_nodes how rows)
    ≡ count_with n.fold (row_nodes how left ++ row_nodes how (row ∷ right)) =
    ap (count_with n.fold)
    (ap (row_nodes how) parts ∙ nodes_of-append fold how.block left (row ∷ right)) in
    let rest : count_with n.fold (row_nodes how (left ++ right))
    ≡ count_with n.fold (row_nodes how left ++ row_nodes how right) =
    ap (count_with n.fold) (nodes_of-append fold how.block left right) in
    omega (
      arith,
      covered n has here,
      all,
      rest,
      count_with-append n.fold (row_nodes how left) (row_nodes how (row ∷ right)),
      count_with-append n.fold (row_nodes how left) (row_nodes how right),
    )
