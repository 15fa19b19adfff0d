use Rattle.std.proofs.Common.{◌≤◌, suc, None, sym, subst, ◌∙◌}
use Rattle.std.proofs.lemmas.Result.{IfOk-from_err}
use Rattle.key_tuple.specs.declared.TheConstants.{MAX_FIELDS}
use Rattle.index_page.specs.declared.head.PageHead.{PageHead}
use Rattle.index_page.specs.Page.{linked}
use Rattle.index_page.specs.Rows.{SameRows}
use Rattle.tree_restructure.specs.Raises.{HasOnePointer}
use Rattle.tree_restructure.proofs.RootLemmas.{few_fields}
use Rattle.tree_restructure.proofs.OutcomeLemmas.{on_err}
use Rattle.tree_restructure.proofs.raise.raise_page.Goals as goal

pub one_pointer-requires-clause-fields : goal.one_pointer-requires-clause-fields
one_pointer-requires-clause-fields c = subst (λ (h : PageHead). h.fields ≤ MAX_FIELDS)
    (sym c.head.ensures) (few_fields c.args.root.now c.is_in_order.ensures c.requires.some)

pub returns-clause-ok : goal.returns-clause-ok
returns-clause-ok c = let moved = c.in_ok-move_rows.ensures in let top = c.in_ok-top.ensures in record {
  go = subst (SameRows c.args.root.now.rows) (sym c.link.ensures.rows) moved.go;
  head = top.head ∙ (λ i. record (c.head.ensures i) { level = suc (c.head.ensures i).level; prev = None; next = None });
  new_head = c.link.ensures.head ∙ (λ i. linked (moved.head i) None None);
  one = subst (λ (h : PageHead). HasOnePointer c.in_ok-top.top h.number) c.head-2.ensures top.one;
  order = c.is_in_order-2.ensures;
  new_order = c.is_in_order-3.ensures;
}

pub returns-in_err-move_rows-clause-below_err : goal.returns-in_err-move_rows-clause-below_err
returns-in_err-move_rows-clause-below_err c = on_err c.from_residual-in_err-move_rows.result
    c.in_err-move_rows.ensures.to_err

pub returns-in_err-move_rows-clause-err : goal.returns-in_err-move_rows-clause-err
returns-in_err-move_rows-clause-err c = on_err c.from_residual-in_err-move_rows.result
    c.in_err-move_rows.ensures.err

pub returns-in_err-move_rows-clause-ok : goal.returns-in_err-move_rows-clause-ok
returns-in_err-move_rows-clause-ok c =
    IfOk-from_err c.from_residual-in_err-move_rows.result _ c.from_residual-in_err-move_rows.ensures.0
