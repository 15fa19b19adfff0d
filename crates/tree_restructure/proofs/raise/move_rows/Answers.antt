use Rattle.std.proofs.lemmas.Result.{on_ok_weaker}
use Rattle.index_page.specs.Moves.{MovesTail}
use Rattle.tree_restructure.proofs.RootLemmas.{all_go}
use Rattle.tree_restructure.proofs.raise.move_rows.Goals as goal

pub returns-clause-go : goal.returns-clause-go
returns-clause-go c = on_ok_weaker c.move_tail.result
    (all_go c.args.from.now c.move_tail.new.self c.args.to.now c.move_tail.new.to c.in-Some.first
    c.is_in_order.ensures c.in-Some.ensures) c.move_tail.ensures.ok

pub returns-clause-head : goal.returns-clause-head
returns-clause-head c = on_ok_weaker c.move_tail.result
    (λ (m : MovesTail c.args.from.now c.move_tail.new.self c.args.to.now c.move_tail.new.to c.in-Some.first). m.to_head)
    c.move_tail.ensures.ok
