use Rattle.std.proofs.Common.{ap, ◌∙◌}
use Rattle.index_page.specs.declared.head.PageHead.{PageHead}
use Rattle.tree_merging.proofs.PairLemmas.{lifts_page}
use Rattle.tree_merging.proofs.lift.lift_page.Goals as goal

pub move_all-requires-clause-level : goal.move_all-requires-clause-level
move_all-requires-clause-level c = ap (λ (h : PageHead). h.level) c.in_ok-whole.ensures.head
    ∙ ap (λ (h : PageHead). h.level) c.head.ensures

pub returns-clause-ok : goal.returns-clause-ok
returns-clause-ok c = let under = c.head.result.now in
    lifts_page c.args.root.now c.move_all.new.to c.args.child.now c.move_all.new.self
    c.link.new.self c.in_ok-whole.whole under.number under.level c.in_ok-move_all.ensures.ok
    c.in_ok-whole.ensures.rows
    (c.in_ok-whole.ensures.head
    ∙ ap (λ (h : PageHead). record h { level = under.level }) c.head-2.ensures)
    (ap (λ (h : PageHead). h.level) c.head.ensures)
    (ap (λ (h : PageHead). h.number) c.head.ensures) c.link.ensures.head c.link.ensures.rows
    c.is_in_order-3.ensures
