use Rattle.std.proofs.Common.{[], ◌++◌, ◌∙◌, List, sym, ap, subst}
use Rattle.index_page.specs.Rows.{Row, SameRows}
use Rattle.byte_page.proofs.MovingLemmas.{all_may_come}
use Rattle.byte_page.proofs.page.BytePage.reorganise.Goals as goal

pub append_rows-requires : goal.append_rows-requires
append_rows-requires c = (
  [],
  c.args.self.now.page.rows,
  all_may_come c.args.self.now c.copy_from.new.self c.clear.new.self c.first.result c.is_in_order.ensures c.copy_from.ensures c.clear.ensures.rows c.clear.ensures.head c.clear.ensures.garbage
      c.first.ensures,
)

pub takes_what_fits-requires : goal.takes_what_fits-requires
takes_what_fits-requires c =
    let can = all_may_come c.args.self.now c.copy_from.new.self c.clear.new.self c.first.result c.is_in_order.ensures c.copy_from.ensures c.clear.ensures.rows c.clear.ensures.head c.clear.ensures.garbage
    c.first.ensures in
    (c.append_rows.ensures [] c.args.self.now.page.rows can).tight

pub returns-clause-page : goal.returns-clause-page
returns-clause-page c =
    let can = all_may_come c.args.self.now c.copy_from.new.self c.clear.new.self c.first.result c.is_in_order.ensures c.copy_from.ensures c.clear.ensures.rows c.clear.ensures.head c.clear.ensures.garbage
    c.first.ensures in
    let a = c.append_rows.ensures [] c.args.self.now.page.rows can in
    let rows = a.rows ∙ ap (λ (xs : List Row). xs ++ a.moved) c.clear.ensures.rows in
    record { same = subst (SameRows c.args.self.now.page.rows) (sym rows) a.same; head = a.head ∙ c.clear.ensures.head }

pub returns-clause-garbage : goal.returns-clause-garbage
returns-clause-garbage c =
    let can = all_may_come c.args.self.now c.copy_from.new.self c.clear.new.self c.first.result c.is_in_order.ensures c.copy_from.ensures c.clear.ensures.rows c.clear.ensures.head c.clear.ensures.garbage
    c.first.ensures in
    (c.append_rows.ensures [] c.args.self.now.page.rows can).tight
