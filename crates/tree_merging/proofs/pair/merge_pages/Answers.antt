use Rattle.std.proofs.Common.{ap}
use Rattle.index_page.specs.declared.head.PageHead.{PageHead}
use Rattle.tree_merging.proofs.PairLemmas.{merges_page}
use Rattle.tree_merging.proofs.RowLemmas.{rises_over}
use Rattle.tree_merging.proofs.pair.merge_pages.Goals as goal

pub move_all-requires-clause-ascend : goal.move_all-requires-clause-ascend
move_all-requires-clause-ascend c = rises_over c.requires.0 c.args.left.now.rows
    c.args.right.now.rows c.is_in_order.ensures.ascend c.is_in_order-2.ensures.ascend
    c.requires.1.parts

pub returns-clause-ok : goal.returns-clause-ok
returns-clause-ok c = merges_page c.args.left.now c.move_all.new.to c.link.new.self
    c.args.right.now c.move_all.new.self c.link-2.new.self c.head.result.now.prev
    c.head-2.result.now.next c.head-2.result.now.number c.in_ok-move_all.ensures.ok
    (ap (λ (h : PageHead). h.prev) c.head.ensures)
    (ap (λ (h : PageHead). h.next) c.head-2.ensures)
    (ap (λ (h : PageHead). h.number) c.head-2.ensures) c.link.ensures.head c.link.ensures.rows
    c.link-2.ensures.head c.link-2.ensures.rows c.is_in_order-3.ensures
