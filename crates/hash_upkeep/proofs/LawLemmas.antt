-- What rows that come, go and move mean for the nodes of their blocks.
use Rattle.std.proofs.Common.{◌≡◌, ℕ, ◌+◌, cond, Option, Some, None, List, [], ◌∷◌, ◌++◌, refl, sym, ap, ◌∙◌, arith, eq-eqb, is_some}
use Rattle.index_page.specs.Rows.{Row, Bytes, placed_row, SameRows}
use Rattle.index_page.specs.Page.{PageRows}
use Rattle.index_page.proofs.WithoutLemmas.{deleted_is, put_without}
use Rattle.chain_arena.specs.declared.node.Node.{Node}
use Rattle.hash_law.specs.Entries.{NodesAt, entries, representatives}
use Rattle.hash_law.specs.Blocks.{folds_of, part_for, due, entries_owed}
use Rattle.hash_law.proofs.RowLemmas.{nodes_of-append, nodes_follow}
use Rattle.hash_upkeep.specs.declared.hashing.Hashing.{Hashing}
use Rattle.hash_upkeep.specs.declared.moves.Move.{Move}
use Rattle.hash_upkeep.specs.Hashing.{row_nodes, row_entries, nodes_if, entries_if}
use Rattle.hash_upkeep.specs.Cover.{count_with, AreCovered}
use Rattle.hash_upkeep.specs.Moves.{from_was, to_was}
use Rattle.hash_upkeep.specs.Laws.{RowsComeAndGo, WrittenRowsKeepEntries, ExactNodesAreCovered, MovesAreCovered, EntriesAreOwed}
use Rattle.hash_upkeep.proofs.CoverLemmas.{count_with-append}
use Rattle.hash_upkeep.proofs.KeepLemmas.{exact_covers}
use Rattle.hash_upkeep.proofs.EmptyLemmas.{exact_covers_if}

pub come_and_go : RowsComeAndGo
come_and_go = record {
  came = λ before after row put. ap (λ (p : PageRows). p.rows) (put_without before after row put);
  went = λ before after place order gone.
      ap (λ (p : PageRows). p.rows) (deleted_is before after place order.places gone);
}

pub written_keep : WrittenRowsKeepEntries
written_keep how before after place value s =
    let nodes = nodes_follow.written (folds_of how.bits how.index how.params) how.block s.left
    s.row (placed_row place s.row.key (Bytes value)) s.right (sym s.place_is) refl in
    ap (row_entries how) s.is
    ∙ (ap (representatives how.params.left) nodes ∙ sym (ap (row_entries how) s.was))

-- rows with the same keys have the same folds
same_folds : (how : Hashing) (fold : ℕ) (xs ys : List Row) → SameRows xs ys
    → count_with fold (row_nodes how xs) ≡ count_with fold (row_nodes how ys)
same_folds how fold [] [] same = refl
same_folds how fold [] (y ∷ ys) same = absurd same
same_folds how fold (x ∷ xs) [] same = absurd same
same_folds how fold (x ∷ xs) (y ∷ ys) same =
    let first : count_with fold (row_nodes how (x ∷ []))
    ≡ count_with fold (row_nodes how (y ∷ [])) =
    ap (λ key. count_with fold (row_nodes how (placed_row 0 key (Bytes []) ∷ [])))
    same.0 in
    omega (arith, first, same_folds how fold xs ys same.2)

same_folds_if : (how : Option Hashing) (fold : ℕ) (xs ys : List Row) → SameRows xs ys
    → count_with fold (nodes_if how xs) ≡ count_with fold (nodes_if how ys)
same_folds_if None fold xs ys same = refl
same_folds_if (Some how) fold xs ys same = same_folds how fold xs ys same

-- the nodes of rows behind others, where the block may be hashed
folds_behind : (how : Option Hashing) (fold : ℕ) (xs ys : List Row)
    → count_with fold (nodes_if how (xs ++ ys))
    ≡ count_with fold (nodes_if how xs) + count_with fold (nodes_if how ys)
folds_behind None fold xs ys = refl
folds_behind (Some how) fold xs ys =
    ap (count_with fold) (nodes_of-append (folds_of how.bits how.index how.params) how.block xs ys)
    ∙ count_with-append fold (row_nodes how xs) (row_nodes how ys)

pub exact_covered : (how : Hashing) (nodes : List Node) → ExactNodesAreCovered how nodes
exact_covered how nodes = record {
  here = λ rows at. exact_covers how rows nodes at;
  anew = λ before after same at n has is.
      omega (
        arith,
        exact_covers how before.rows nodes at n has is,
        same_folds how n.fold before.rows after.rows same.same,
      );
}

pub moves_covered : (m : Move) (nodes : List Node) → MovesAreCovered m nodes
moves_covered m nodes =
    let gave : (rows : List Row) → NodesAt m.from nodes (entries_if (from_was m) rows)
    → AreCovered m.from nodes (nodes_if (from_was m) rows) =
    λ rows at. exact_covers_if m.index m.from m.bits m.from_built rows nodes at in
    let took : (rows : List Row) → NodesAt m.to nodes (entries_if (to_was m) rows)
    → AreCovered m.to nodes (nodes_if (to_was m) rows) =
    λ rows at. exact_covers_if m.index m.to m.bits m.to_built rows nodes at in
    record {
      tail = λ from from' to to' first empty s e. record {
        gave = λ n has is. omega (
          arith,
          gave from.rows e.gave n has is,
          ap (λ r. count_with n.fold (nodes_if (from_was m) r)) s.was,
          folds_behind (from_was m) n.fold s.left (s.row ∷ s.right),
          ap (λ r. count_with n.fold (nodes_if (from_was m) r)) s.stay,
          same_folds_if (from_was m) n.fold (s.row ∷ s.right) to'.rows s.go,
          count_with-append n.fold (nodes_if (from_was m) from'.rows)
              (nodes_if (from_was m) to'.rows),
        );
        took = λ n has is. (let none = took to.rows e.took n has is in
            let nothing : count_with n.fold (nodes_if (to_was m) to.rows) ≡ 0 =
            ap (λ r. count_with n.fold (nodes_if (to_was m) r)) empty
            ∙ no_folds (to_was m) n.fold in
            absurd (omega (arith, none, nothing)));
      };
      all = λ from from' to to' given s e. record {
        gave = λ n has is. omega (
          arith,
          gave from.rows e.gave n has is,
          same_folds_if (from_was m) n.fold from.rows s.moved s.same,
          folds_behind (from_was m) n.fold to.rows s.moved,
          ap (λ r. count_with n.fold (nodes_if (from_was m) r)) s.behind,
          count_with-append n.fold (nodes_if (from_was m) given.rows)
              (nodes_if (from_was m) to'.rows),
        );
        took = λ n has is. omega (
          arith,
          took to.rows e.took n has is,
          folds_behind (to_was m) n.fold to.rows s.moved,
          ap (λ r. count_with n.fold (nodes_if (to_was m) r)) s.behind,
        );
      };
    }
  where
    no_folds : (how : Option Hashing) (fold : ℕ) → count_with fold (nodes_if how []) ≡ 0
    no_folds None fold = refl
    no_folds (Some how) fold = refl

pub owed : EntriesAreOwed
owed bits parts k b part x page index params page_is hashed built part_is =
    let all : due (folds_of bits) parts k b part x
    ≡ cond (is_some x.hashed)
    (entries_owed (folds_of bits) parts k b x.page x.hashed x.figures.built) [] =
    refl in
    all
    ∙ ((λ i. cond (is_some (hashed i))
    (entries_owed (folds_of bits) parts k b (page_is i) (hashed i) (built i)) [])
    ∙ ap (λ t. cond t (entries params.left (folds_of bits index params) b page.rows) [])
    (eq-eqb (part_for parts index) k part_is))
