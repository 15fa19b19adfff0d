-- What rows change among the entries, by what their nodes change.
use Rattle.std.proofs.Common.{ℕ, Bool, ◌∷◌}
use Rattle.key_tuple.specs.Order.{FieldList}
use Rattle.hash_law.specs.Entries.{node_of, nodes_of}
use Rattle.hash_law.specs.Laws.{RowsChangeFew}
use Rattle.hash_law.proofs.ChangeLemmas.{insert_changes, delete_changes, tail_joins, tail_leaves}
use Rattle.hash_law.proofs.RowLemmas.{nodes_of-append}

-- rows change few entries
pub rows_change : (left : Bool) (fold : FieldList → ℕ) (block : ℕ) → RowsChangeFew left fold block
rows_change left fold block =
    let of_rows = nodes_of fold block in
    record {
      row_comes = λ before x after.
          rw (nodes_of-append fold block before after, nodes_of-append fold block before (x ∷ after))
          (insert_changes left (of_rows before) (of_rows after) (node_of fold block x));
      row_goes = λ before x after.
          rw (nodes_of-append fold block before after, nodes_of-append fold block before (x ∷ after))
          (delete_changes left (of_rows before) (of_rows after) (node_of fold block x));
      tail_comes = λ before tail. rw (nodes_of-append fold block before tail)
          (tail_joins left (of_rows before) (of_rows tail));
      tail_goes = λ before tail. rw (nodes_of-append fold block before tail)
          (tail_leaves left (of_rows before) (of_rows tail));
    }
