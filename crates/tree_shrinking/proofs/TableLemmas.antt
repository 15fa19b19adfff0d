-- Neither the pool nor a partition is held once two children were merged, or a root was lifted.
use Rattle.std.proofs.Common.{ℕ, ◌<◌, [], ◌∷◌, ◌∙◌}
use Rattle.latch_space.specs.Passes.{view}
use Rattle.forest_law.specs.Numbers.{tree_id, frame_id}
use Rattle.forest_world.specs.Held.{TreePass, shape_of_pass}
use Rattle.call_law.specs.Hands.{HoldsNoTable}
use Rattle.call_law.proofs.TableLemmas.{tables_lacked, table_no_frame, table_no_tree}
use Rattle.tree_smo.proofs.SilentLemmas.{does_shape}
use Rattle.tree_shrinking.specs.Lifting.{SinksRoot}
use Rattle.tree_shrinking.specs.Merging.{MergesPair}

pub tables_merged : {p q : TreePass} {parent left right i : ℕ} → MergesPair p parent left right i q
    → HoldsNoTable (view p) → HoldsNoTable (view q)
tables_merged {p} {q} {parent} {left} {right} made =
    let s = shape_of_pass p in
    tables_lacked (view p) (view q)
    (does_shape p q (frame_id s parent ∷ frame_id s left ∷ frame_id s right ∷ [])
    made.silently.added made.silently.does)
    (λ k table lacks. made.silently.does.rest k (
      table_no_frame s k parent table,
      (table_no_frame s k left table, (table_no_frame s k right table, tt)),
    ) ∙ lacks)

pub tables_sunk : {p q : TreePass} {i b child : ℕ} → i < (shape_of_pass p).indexes
    → SinksRoot p i b child q → HoldsNoTable (view p) → HoldsNoTable (view q)
tables_sunk {p} {q} {i} {b} {child} below made =
    let s = shape_of_pass p in
    tables_lacked (view p) (view q)
    (does_shape p q (frame_id s b ∷ frame_id s child ∷ tree_id i ∷ []) made.silently.added
    made.silently.does)
    (λ k table lacks. made.silently.does.rest k (
      table_no_frame s k b table,
      (table_no_frame s k child table, (table_no_tree s k i below table, tt)),
    ) ∙ lacks)
