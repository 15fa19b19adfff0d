-- The nodes and the entries that a walk along rows has ahead.
use Rattle.std.proofs.Common.{◌≡◌, ◌≢◌, ℕ, ◌<◌, ◌≤◌, ◌==◌, Bool, true, false, cond, not, Option, Some, None, IsSome, List, [], ◌∷◌, ◌++◌, length, refl, sym, ap, ◌∙◌, subst, arith, rules, eq-eqb, append_assoc, length-append}
use Rattle.std.specs.Bool.{OnTrue, OnFalse}
use Rattle.std.proofs.lemmas.Bool.{ne_eqb}
use Rattle.std.proofs.lemmas.Option.{same_Some}
use Rattle.index_page.specs.Rows.{Row, find_row, first_of_rows}
use Rattle.index_page.specs.Page.{PlacesDiffer}
use Rattle.index_page.specs.Changes.{NextIs}
use Rattle.index_page.proofs.WithoutLemmas.{each_middle}
use Rattle.chain_arena.specs.declared.node.Node.{Node}
use Rattle.hash_law.specs.Entries.{has_fold, unless_alike, first_or, firsts, lasts, representatives}
use Rattle.hash_law.specs.Laws.{node_if}
use Rattle.hash_law.proofs.RowLemmas.{nodes_follow}
use Rattle.hash_upkeep.specs.declared.hashing.Hashing.{Hashing}
use Rattle.hash_law.specs.Blocks.{folds_of}
use Rattle.hash_upkeep.specs.Hashing.{row_node, row_nodes, row_entries}
use Rattle.hash_upkeep.specs.Walk.{rows_starting, nodes_from_node, entries_behind}

-- from a row's place on there are the row and those after it
pub rows_starting-split : (left : List Row) (row : Row) (right : List Row)
    → PlacesDiffer (left ++ row ∷ right)
    → rows_starting row.place (left ++ row ∷ right) ≡ row ∷ right
rows_starting-split [] row right differ =
    ap (λ b. cond b (row ∷ right) (rows_starting row.place right)) (eq-eqb row.place row.place refl)
rows_starting-split (x ∷ left) row right differ =
    let apart = each_middle (λ (y : Row). y.place ≢ x.place) left row right differ.0 in
    ap
    (λ b. cond b (x ∷ (left ++ row ∷ right)) (rows_starting row.place (left ++ row ∷ right)))
    (ne_eqb x.place row.place (λ e. apart (sym e)))
    ∙ rows_starting-split left row right differ.1

-- a row stands where rows begin that have a first node
pub found_from : (how : Hashing) (place : ℕ) (rows : List Row) (m : Node)
    → first_or None (row_nodes how (rows_starting place rows)) ≡ Some m
    → IsSome (find_row place rows)
found_from how place [] m e = absurd cc
found_from how place (x ∷ xs) m e = go (x.place == place) e (found_from how place xs m)
  where
    go : (b : Bool)
        → first_or None (row_nodes how (cond b (x ∷ xs) (rows_starting place xs))) ≡ Some m
        → (first_or None (row_nodes how (rows_starting place xs)) ≡ Some m
        → IsSome (find_row place xs))
        → IsSome (cond b (Some x) (find_row place xs))
    go true e more = search rules
    go false e more = more e

-- the nodes from the first row behind a row on
behind_row : (how : Hashing) (rows left : List Row) (row : Row) (right : List Row)
    → rows ≡ left ++ row ∷ right → PlacesDiffer rows
    → nodes_from_node how rows
    (node_if (folds_of how.bits how.index how.params) how.block (first_of_rows right))
    ≡ row_nodes how right
behind_row how rows left row [] parts differ = refl
behind_row how rows left row (y ∷ ys) parts differ =
    let all : rows ≡ (left ++ row ∷ []) ++ y ∷ ys =
    parts ∙ sym (append_assoc left (row ∷ []) (y ∷ ys)) in
    ap (row_nodes how)
    (ap (rows_starting y.place) all
    ∙ rows_starting-split (left ++ row ∷ []) y ys (subst PlacesDiffer all differ))

-- the entries behind a node begin with the next node, unless its neighbour has its fold
behind_next : (left : Bool) (passed : Option Node) (m : Node) (ms : List Node)
    → entries_behind left passed (m ∷ ms) ≡ unless_alike (cond left passed (first_or None ms)) m
    ++ entries_behind left (Some m) ms
behind_next true passed m ms = refl
behind_next false passed m ms = refl

-- what a walk has ahead that passes a row
pub record PassesRow (how : Hashing) (rows : List Row) (passed : Option Node) (m : Node)
    (next : Option Node) : Type 0 where
  pub on : first_or None (nodes_from_node how rows next) ≡ next
  pub entries : entries_behind how.params.left passed (row_nodes how (rows_starting m.place rows))
      ≡ unless_alike (cond how.params.left passed next) m
      ++ entries_behind how.params.left (Some m) (nodes_from_node how rows next)
  pub nearer : length (nodes_from_node how rows next)
      < length (row_nodes how (rows_starting m.place rows))

pub passes_row : (how : Hashing) (rows : List Row) (passed : Option Node) (m : Node)
    (at : Option ℕ) (next : Option Node) → PlacesDiffer rows → (n : NextIs rows m.place at)
    → first_or None (row_nodes how (rows_starting m.place rows)) ≡ Some m
    → next ≡ node_if (folds_of how.bits how.index how.params) how.block (first_of_rows n.right)
    → PassesRow how rows passed m next
passes_row how rows passed m at next differ n on next_is =
    let here : rows_starting m.place rows ≡ n.row ∷ n.right =
    ap (λ p. rows_starting p rows) (sym n.place_is)
    ∙ (ap (rows_starting n.row.place) n.split
    ∙ rows_starting-split n.left n.row n.right (subst PlacesDiffer n.split differ)) in
    let node_is : row_node how n.row ≡ m =
    same_Some (row_node how n.row) m
    (sym (ap (λ r. first_or None (row_nodes how r)) here) ∙ on) in
    let ahead : nodes_from_node how rows next ≡ row_nodes how n.right =
    ap (nodes_from_node how rows) next_is
    ∙ behind_row how rows n.left n.row n.right n.split differ in
    let first : first_or None (row_nodes how n.right) ≡ next =
    nodes_follow.first (folds_of how.bits how.index how.params) how.block n.right ∙ sym next_is in
    record {
      on = ap (first_or None) ahead ∙ first;
      entries =
          ap (λ r. entries_behind how.params.left passed (row_nodes how r)) here
          ∙ (behind_next how.params.left passed (row_node how n.row) (row_nodes how n.right)
          ∙ (λ i. unless_alike (cond how.params.left passed (first i)) (node_is i)
          ++ entries_behind how.params.left (Some (node_is i)) (sym ahead i)));
      nearer =
          (let long : length (row_nodes how (rows_starting m.place rows))
          ≡ length (row_node how n.row ∷ row_nodes how n.right) =
          ap (λ r. length (row_nodes how r)) here in omega (arith, long, ap length ahead));
    }

-- what a walk has ahead begins with the node ahead, unless its neighbour has its fold
pub ahead_is : (how : Hashing) (rows : List Row) (passed ahead : Option Node) (m : Node)
    (next neighbour : Option Node) → ahead ≡ Some m → PassesRow how rows passed m next
    → neighbour ≡ cond how.params.left passed next
    → entries_behind how.params.left passed (nodes_from_node how rows ahead)
    ≡ unless_alike neighbour m
    ++ entries_behind how.params.left (Some m) (nodes_from_node how rows next)
ahead_is how rows passed ahead m next neighbour there p is =
    ap (λ a. entries_behind how.params.left passed (nodes_from_node how rows a)) there
    ∙ (p.entries
    ∙ ap (λ a. unless_alike a m
    ++ entries_behind how.params.left (Some m) (nodes_from_node how rows next)) (sym is))

-- whether a node is entered tells what is ahead
pub entered_if : (alike : Bool) (neighbour : Option Node) (m : Node) (all rest : List Node)
    → alike ≡ has_fold neighbour m.fold → all ≡ unless_alike neighbour m ++ rest
    → OnTrue (not alike) (all ≡ m ∷ rest)
entered_if true neighbour m all rest is e = tt
entered_if false neighbour m all rest is e = e ∙ ap (λ b. cond b [] (m ∷ []) ++ rest) (sym is)

pub passed_if : (alike : Bool) (neighbour : Option Node) (m : Node) (all rest : List Node)
    → alike ≡ has_fold neighbour m.fold → all ≡ unless_alike neighbour m ++ rest
    → OnFalse (not alike) (all ≡ rest)
passed_if true neighbour m all rest is e = e ∙ ap (λ b. cond b [] (m ∷ []) ++ rest) (sym is)
passed_if false neighbour m all rest is e = tt

-- a walk that has passed nothing has all entries ahead
pub all_behind : (left : Bool) (ms : List Node)
    → entries_behind left None ms ≡ representatives left ms
all_behind true ms = refl
all_behind false ms = refl

-- one node at most is entered for a node
one_at_most : (b : Bool) (m : Node) → length (cond b [] (m ∷ [])) ≤ 1
one_at_most true m = omega arith
one_at_most false m = omega arith

-- no more entries than nodes
fewer_firsts : (q : Option Node) (ms : List Node) → length (firsts q ms) ≤ length ms
fewer_firsts q [] = omega arith
fewer_firsts q (m ∷ ms) =
    omega (
      arith,
      fewer_firsts (Some m) ms,
      one_at_most (has_fold q m.fold) m,
      length-append (unless_alike q m) (firsts (Some m) ms),
    )

fewer_lasts : (ms : List Node) (q : Option Node) → length (lasts ms q) ≤ length ms
fewer_lasts [] q = omega arith
fewer_lasts (m ∷ ms) q =
    omega (
      arith,
      fewer_lasts ms q,
      one_at_most (has_fold (first_or q ms) m.fold) m,
      length-append (unless_alike (first_or q ms) m) (lasts ms q),
    )

as_many_nodes : (how : Hashing) (rows : List Row) → length (row_nodes how rows) ≡ length rows
as_many_nodes how [] = refl
as_many_nodes how (x ∷ xs) = omega (arith, as_many_nodes how xs)

-- a leaf has no more entries than rows
pub fewer_entries : (how : Hashing) (rows : List Row) → length (row_entries how rows) ≤ length rows
fewer_entries how rows = pick how.params.left
  where
    pick : (left : Bool) → length (representatives left (row_nodes how rows)) ≤ length rows
    pick true = omega (arith, as_many_nodes how rows, fewer_firsts None (row_nodes how rows))
    pick false = omega (arith, as_many_nodes how rows, fewer_lasts (row_nodes how rows) None)
