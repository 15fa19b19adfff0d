-- The row that a node names.
use Rattle.std.proofs.Common.{◌≡◌, ◌⊎◌, inl, inr, ℕ, ◌≤◌, Bool, true, false, if◌then◌else◌, Option, Some, None, List, [], ◌∷◌, ◌++◌, refl, ap, arith}
use Rattle.std.specs.Prelude.{reverse}
use Rattle.key_tuple.specs.Order.{FieldList}
use Rattle.index_page.specs.Rows.{Row, first_of_rows, last_of_rows, last_row_after}
use Rattle.chain_arena.specs.declared.node.Node.{Node}
use Rattle.chain_arena.specs.Bag.{same_node, count_of}
use Rattle.chain_arena.specs.Count.{bit}
use Rattle.chain_arena.proofs.BagLemmas.{same_is}
use Rattle.hash_law.specs.Entries.{node_of, nodes_of, has_fold, unless_alike, first_or, last_or, firsts, representatives}
use Rattle.hash_law.specs.Laws.{node_if, NodesFollowRows, NamesRow, NodesNameRows}
use Rattle.hash_law.specs.Sums.{EntriesAreOwn}
use Rattle.hash_law.proofs.BagLemmas.{count-append}
use Rattle.hash_law.proofs.RunLemmas.{lasts_mirror}
use Rattle.hash_law.proofs.WeightLemmas.{weight-reverse}

-- the nodes of rows behind others
pub nodes_of-append : (fold : FieldList → ℕ) (block : ℕ) (xs ys : List Row)
    → nodes_of fold block (xs ++ ys) ≡ nodes_of fold block xs ++ nodes_of fold block ys
nodes_of-append fold block [] ys = refl
nodes_of-append fold block (x ∷ xs) ys =
    ap (λ ms. node_of fold block x ∷ ms) (nodes_of-append fold block xs ys)

-- the node of the first row
first_node : (fold : FieldList → ℕ) (block : ℕ) (rows : List Row)
    → first_or None (nodes_of fold block rows) ≡ node_if fold block (first_of_rows rows)
first_node fold block [] = refl
first_node fold block (x ∷ xs) = refl

-- the node of the last row
last_node : (fold : FieldList → ℕ) (block : ℕ) (rows : List Row)
    → last_or None (nodes_of fold block rows) ≡ node_if fold block (last_of_rows rows)
last_node fold block [] = refl
last_node fold block (x ∷ xs) = behind x xs
  where
    behind : (x : Row) (xs : List Row)
        → last_or (Some (node_of fold block x)) (nodes_of fold block xs)
        ≡ Some (node_of fold block (last_row_after x xs))
    behind x [] = refl
    behind x (y ∷ ys) = behind y ys

-- a row that is written anew
written_row : (fold : FieldList → ℕ) (block : ℕ) (before : List Row) (x y : Row) (after : List Row)
    → y.place ≡ x.place → y.key ≡ x.key
    → nodes_of fold block (before ++ y ∷ after) ≡ nodes_of fold block (before ++ x ∷ after)
written_row fold block [] x y after place key =
    let same : node_of fold block y ≡ node_of fold block x =
    λ i. record { fold = fold (key i); block = block; place = place i } in
    ap (λ m. m ∷ nodes_of fold block after) same
written_row fold block (z ∷ before) x y after place key =
    ap (λ ms. node_of fold block z ∷ ms) (written_row fold block before x y after place key)

-- nodes follow their rows
pub nodes_follow : NodesFollowRows
nodes_follow = assumption (nodes_of-append, first_node, last_node, written_row)

module _ (n : Node) where
  -- a node unless something: at most once
  unless_less : (b : Bool) (m : Node)
      → count_of n (if b then [] else m ∷ []) ≤ bit (same_node n m)
  unless_less true m = omega arith
  unless_less false m = omega arith

  -- no node is entered more often than rows have it
  firsts_less : (q : Option Node) (ms : List Node) → count_of n (firsts q ms) ≤ count_of n ms
  firsts_less q [] = omega arith
  firsts_less q (m ∷ ms) =
      omega (
        arith,
        firsts_less (Some m) ms,
        unless_less (has_fold q m.fold) m,
        count-append n (unless_alike q m) (firsts (Some m) ms),
      )

  -- on either side
  representatives_less : (left : Bool) (ms : List Node)
      → count_of n (representatives left ms) ≤ count_of n ms
  representatives_less true ms = firsts_less None ms
  representatives_less false ms =
      let turned : (xs : List Node) → count_of n (reverse xs) ≡ count_of n xs =
      weight-reverse (count_of n) refl (count-append n) in
      omega (
        arith,
        ap (count_of n) (lasts_mirror ms None),
        turned (firsts None (reverse ms)),
        firsts_less None (reverse ms),
        turned ms,
      )

  -- a node of some rows names one of them
  names_one : (fold : FieldList → ℕ) (block : ℕ) (rows : List Row)
      → 1 ≤ count_of n (nodes_of fold block rows) → NamesRow fold block rows n
  names_one fold block [] more = absurd (omega (arith, more))
  names_one fold block (x ∷ xs) more = elim (bits (same_node n (node_of fold block x))) [
    | inl e ↦ record {
      before = [];
      row = x;
      after = xs;
      parts = refl;
      node = same_is n (node_of fold block x) e;
    }
    | inr e ↦ (let none : bit (same_node n (node_of fold block x)) ≡ 0 = ap bit e in
        let r = names_one fold block xs (omega (arith, more, none)) in record {
          before = x ∷ r.before;
          row = r.row;
          after = r.after;
          parts = ap (λ (z : List Row). x ∷ z) r.parts;
          node = r.node;
        })
  ]
    where
      bits : (b : Bool) → (b ≡ true) ⊎ (b ≡ false)
      bits true = inl refl
      bits false = inr refl

-- a node that is entered names a row
pub nodes_name : NodesNameRows
nodes_name left fold block rows n has =
    names_one n fold block rows
    (omega (arith, has, representatives_less n left (nodes_of fold block rows)))

-- an entered node is its block's
pub entries_own : EntriesAreOwn
entries_own left fold block rows n has =
    ap (λ (m : Node). m.block) (nodes_name left fold block rows n has).node
