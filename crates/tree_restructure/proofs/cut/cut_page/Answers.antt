use Rattle.std.proofs.Common.{◌≢◌, ◌∙◌, Some, sym, subst}
use Rattle.index_page.specs.declared.TheConstants.{NO_PAGE}
use Rattle.index_page.specs.declared.head.PageHead.{PageHead}
use Rattle.index_page.specs.Page.{linked, IsNeighbour}
use Rattle.tree_restructure.proofs.HalvesLemmas.{cuts_page}
use Rattle.tree_restructure.proofs.cut.cut_page.Goals as goal

pub returns-clause-ok : goal.returns-clause-ok
returns-clause-ok c = let one = c.head.ensures in let two = c.head-2.ensures in
    cuts_page c.args.left.now c.move_tail.new.self c.link.new.self c.args.right.now
    c.move_tail.new.to c.link-2.new.self c.args.cut.now.place c.args.cut.now.key.tuple
    c.is_in_order.ensures c.requires.cut c.in_ok-move_tail.ensures.ok
    (c.link.ensures.head
    ∙ (λ i. linked c.move_tail.new.self.head (one i).prev (Some (two i).number)))
    c.link.ensures.rows
    (c.link-2.ensures.head
    ∙ (λ i. linked c.move_tail.new.to.head (Some (one i).number) (one i).next))
    c.link-2.ensures.rows c.is_in_order-2.ensures c.is_in_order-3.ensures

pub link-requires-2-clause-prev : goal.link-requires-2-clause-prev
link-requires-2-clause-prev c =
    subst (λ (h : PageHead). h.number ≢ NO_PAGE) (sym c.head.ensures) c.requires.number

pub link-requires-2-clause-next : goal.link-requires-2-clause-next
link-requires-2-clause-next c =
    subst (λ (h : PageHead). IsNeighbour h.next) (sym c.head.ensures) c.is_in_order.ensures.next

pub link-requires-clause-next : goal.link-requires-clause-next
link-requires-clause-next c =
    subst (λ (h : PageHead). h.number ≢ NO_PAGE) (sym c.head-2.ensures) c.requires.other

pub link-requires-clause-prev : goal.link-requires-clause-prev
link-requires-clause-prev c =
    subst (λ (h : PageHead). IsNeighbour h.prev) (sym c.head.ensures) c.is_in_order.ensures.prev
