-- The laws of the entries of hashed leaves.
use Rattle.std.specs.Prelude.{ℕ, ◌≡◌, ◌≤◌, Bool, true, false, Option, Some, None, List, ◌∷◌, ◌++◌, length, reverse}
use Rattle.key_tuple.specs.Order.{FieldList}
use Rattle.index_page.specs.Rows.{Row, first_of_rows, last_of_rows}
use Rattle.chain_arena.specs.declared.node.Node.{Node}
use Rattle.chain_arena.specs.Bag.{HasNode}
use Rattle.hash_law.specs.Entries.{node_of, nodes_of, first_or, last_or, representatives, entries, IsRun, run_entry}
use Rattle.hash_law.specs.Changes.{leader, follower, brought_in, driven_out, tail_entries, seam, Exchanges}

-- a run among others has one entry, its first node or its last, and changes no other's
abbrev pub OneOfEachRun : Type 0
OneOfEachRun = (left : Bool) (before after : List Node) (m : Node) (ms : List Node)
    → IsRun before (m ∷ ms) after
    → representatives left (before ++ (m ∷ ms) ++ after)
    ≡ representatives left before ++ run_entry left m ms ∷ representatives left after

-- right is left, read from the end
abbrev pub RightMirrorsLeft : Type 0
RightMirrorsLeft = (ms : List Node)
    → representatives false ms ≡ reverse (representatives true (reverse ms))

-- a node comes between others: what it drives out goes, and what it brings in comes
abbrev pub InsertsChangeFew : Type 0
InsertsChangeFew = (left : Bool) (before after : List Node) (x : Node)
    → let led = leader left before after in let follows = follower left before after in
    Exchanges (representatives left (before ++ after)) (driven_out led x follows)
    (brought_in led x follows) (representatives left (before ++ x ∷ after))

-- a node goes from between others: what it brought in goes, and what it drove out comes
abbrev pub DeletesChangeFew : Type 0
DeletesChangeFew = (left : Bool) (before after : List Node) (x : Node)
    → let led = leader left before after in let follows = follower left before after in
    Exchanges (representatives left (before ++ x ∷ after)) (brought_in led x follows)
    (driven_out led x follows) (representatives left (before ++ after))

-- a tail goes: its entries go, and the seam comes
abbrev pub TailsLeave : Type 0
TailsLeave = (left : Bool) (before tail : List Node)
    → Exchanges (representatives left (before ++ tail)) (tail_entries left before tail)
    (seam left before tail) (representatives left before)

-- a tail is appended: the seam goes, and its entries come
abbrev pub TailsJoin : Type 0
TailsJoin = (left : Bool) (before tail : List Node)
    → Exchanges (representatives left before) (seam left before tail)
    (tail_entries left before tail) (representatives left (before ++ tail))

-- a node brings in two at most, it drives out one at most, and a seam has one at most
pub record ChangesAreFew : Type 0 where
  pub brought : (led : Option Node) (x : Node) (follows : Option Node)
      → length (brought_in led x follows) ≤ 2
  pub driven : (led : Option Node) (x : Node) (follows : Option Node)
      → length (driven_out led x follows) ≤ 1
  pub seams : (left : Bool) (before tail : List Node) → length (seam left before tail) ≤ 1

-- the node of a row, if there is one
abbrev pub node_if : (FieldList → ℕ) → ℕ → Option Row → Option Node
node_if fold block None = None
node_if fold block (Some row) = Some (node_of fold block row)

-- nodes follow their rows: of rows behind others, of the first, of the last, and of one that is written
-- anew at its place
pub record NodesFollowRows : Type 0 where
  pub appended : (fold : FieldList → ℕ) (block : ℕ) (before after : List Row)
      → nodes_of fold block (before ++ after)
      ≡ nodes_of fold block before ++ nodes_of fold block after
  pub first : (fold : FieldList → ℕ) (block : ℕ) (rows : List Row)
      → first_or None (nodes_of fold block rows) ≡ node_if fold block (first_of_rows rows)
  pub last : (fold : FieldList → ℕ) (block : ℕ) (rows : List Row)
      → last_or None (nodes_of fold block rows) ≡ node_if fold block (last_of_rows rows)
  pub written : (fold : FieldList → ℕ) (block : ℕ) (before : List Row) (x y : Row)
      (after : List Row) → y.place ≡ x.place → y.key ≡ x.key
      → nodes_of fold block (before ++ y ∷ after) ≡ nodes_of fold block (before ++ x ∷ after)

-- the same of rows: what a row that comes or goes, and a tail that does, exchange among the entries
pub record RowsChangeFew (left : Bool) (fold : FieldList → ℕ) (block : ℕ) : Type 0 where
  pub row_comes : (before : List Row) (x : Row) (after : List Row)
      → let xs = nodes_of fold block before in let ys = nodes_of fold block after in
      let led = leader left xs ys in let follows = follower left xs ys in
      let n = node_of fold block x in
      Exchanges (entries left fold block (before ++ after)) (driven_out led n follows)
      (brought_in led n follows) (entries left fold block (before ++ x ∷ after))
  pub row_goes : (before : List Row) (x : Row) (after : List Row)
      → let xs = nodes_of fold block before in let ys = nodes_of fold block after in
      let led = leader left xs ys in let follows = follower left xs ys in
      let n = node_of fold block x in
      Exchanges (entries left fold block (before ++ x ∷ after)) (brought_in led n follows)
      (driven_out led n follows) (entries left fold block (before ++ after))
  pub tail_comes : (before tail : List Row)
      → let xs = nodes_of fold block before in let ys = nodes_of fold block tail in
      Exchanges (entries left fold block before) (seam left xs ys) (tail_entries left xs ys)
      (entries left fold block (before ++ tail))
  pub tail_goes : (before tail : List Row)
      → let xs = nodes_of fold block before in let ys = nodes_of fold block tail in
      Exchanges (entries left fold block (before ++ tail)) (tail_entries left xs ys)
      (seam left xs ys) (entries left fold block before)

-- a row, with those before and after it, of which this is the node
pub record NamesRow (fold : FieldList → ℕ) (block : ℕ) (rows : List Row) (n : Node) : Type 0 where
  pub before : List Row
  pub row : Row
  pub after : List Row
  pub parts : rows ≡ before ++ row ∷ after
  pub node : n ≡ node_of fold block row

-- a node that a block with these rows has entered names one of them
abbrev pub NodesNameRows : Type 0
NodesNameRows = (left : Bool) (fold : FieldList → ℕ) (block : ℕ) (rows : List Row) (n : Node)
    → HasNode (entries left fold block rows) n → NamesRow fold block rows n
