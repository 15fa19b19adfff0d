use Rattle.std.proofs.Common.{ap, sym, ◌∙◌}
use Rattle.list_facts.proofs.Places.{same_some}
use Rattle.index_page.specs.Rows.{Row, first_of_rows, last_of_rows}
use Rattle.tree_shrinking.proofs.FamilyLemmas.{at_there, points_at, row_there}
use Rattle.tree_shrinking.proofs.families.family_at.Goals as goal

pub child_at-requires-clause-there : goal.child_at-requires-clause-there
child_at-requires-clause-there c = let b = c.beside-before.ensures in
    at_there c.args.page.now.rows c.beside-before.result.0 (last_of_rows b.left) b.prev_at

pub child_at-requires-2-clause-there : goal.child_at-requires-2-clause-there
child_at-requires-2-clause-there c = let b = c.beside-before.ensures in
    at_there c.args.page.now.rows c.beside-before.result.1 (first_of_rows b.right) b.next_at

pub returns-clause-tells : goal.returns-clause-tells
returns-clause-tells c = let b = c.beside-before.ensures in let rows = c.args.page.now.rows in record {
  fore = b.left;
  this = b.row;
  aft = b.right;
  was = b.split;
  child = ap (λ (x : Row). x.body) (row_there rows c.args.place c.beside-before.result.0
      c.beside-before.result.1 c.row.result.row c.is_in_order.ensures.places b c.row.ensures.row)
      ∙ c.child.ensures;
  left = points_at rows c.beside-before.result.0 (last_of_rows b.left) c.child_at.result b.prev_at
      c.child_at.ensures;
  right = points_at rows c.beside-before.result.1 (first_of_rows b.right) c.child_at-2.result b.next_at
      c.child_at-2.ensures;
}

pub returns-clause-at : goal.returns-clause-at
returns-clause-at c row there =
    ap (λ (x : Row). x.body) (same_some row c.row.result.row (sym there ∙ c.row.ensures.row))
    ∙ c.child.ensures
