use Rattle.index_page.specs.Changes.{rows_without}
use Rattle.hash_law.specs.Changes.{leader, follower}
use Rattle.hash_upkeep.specs.Hashing.{row_entries, row_node, row_nodes}
use Rattle.hash_upkeep.specs.Change.{few_nodes}
use Rattle.hash_upkeep.specs.Upkeep.{upkeep_of}
use Rattle.hash_upkeep.proofs.ChangeLemmas.{row_exchange, row_answer}
use Rattle.hash_upkeep.proofs.KeepLemmas.{Swaps, swaps, own_entries, renews_kept, exact_covers}
use Rattle.hash_upkeep.proofs.RoomLemmas.{goes_kept}
use Rattle.hash_upkeep.proofs.rows.on_delete.Goals as goal
use Rattle.hash_upkeep.proofs.rows.on_delete.Goals.{After-row_change_at-change}

swap : (c : After-row_change_at-change)
    → Swaps c.args.how.now.block c.args.part.now.nodes
    (few_nodes c.row_change_at-change.result.brought)
    (few_nodes c.row_change_at-change.result.driven)
    (row_entries c.args.how.now (rows_without c.args.place c.args.page.now.rows))
swap c = let how = c.args.how.now in let rows = c.args.page.now.rows in
    let rest = rows_without c.args.place rows in
    let change = c.row_change_at-change in
    let exchange =
    row_exchange how rows c.args.place change.result c.is_in_order.ensures.places change.ensures in
    swaps how.block (row_entries how rows) (few_nodes change.result.brought)
    (few_nodes change.result.driven) (row_entries how rest) c.args.part.now.nodes
    exchange.goes
    (own_entries how rows) (own_entries how rest) c.requires.exact

pub swap_nodes-requires-clause-covered : goal.swap_nodes-requires-clause-covered
swap_nodes-requires-clause-covered c =
    exact_covers c.args.how.now c.args.page.now.rows c.args.part.now.nodes c.requires.exact

pub swap_nodes-requires-clause-there : goal.swap_nodes-requires-clause-there
swap_nodes-requires-clause-there c =
    (swap (goal.at.swap_nodes-requires-clause-there c).After-row_change_at-change).there

pub swap_nodes-requires-clause-goes : goal.swap_nodes-requires-clause-goes
swap_nodes-requires-clause-goes c =
    (swap (goal.at.swap_nodes-requires-clause-goes c).After-row_change_at-change).goes_own

pub swap_nodes-requires-clause-comes : goal.swap_nodes-requires-clause-comes
swap_nodes-requires-clause-comes c =
    (swap (goal.at.swap_nodes-requires-clause-comes c).After-row_change_at-change).comes_own

pub returns-clause-kept : goal.returns-clause-kept
returns-clause-kept c = let how = c.args.how.now in let s = c.swap_nodes in
    let change = c.row_change_at-change.result in let is = c.row_change_at-change.ensures in
    let xs = row_nodes how is.left in let ys = row_nodes how is.right in
    goes_kept s.result c.args.part.now.spare (leader how.params.left xs ys) (row_node how is.row)
    (follower how.params.left xs ys) (few_nodes change.brought) (few_nodes change.driven) is.brought
    is.driven s.ensures.answer

pub returns-clause-part : goal.returns-clause-part
returns-clause-part c = let p = (goal.at.returns-clause-part c).After-row_change_at-change in
    let s = c.swap_nodes in let change = c.row_change_at-change.result in
    renews_kept c.args.how.now.block s.result (few_nodes change.brought) (few_nodes change.driven)
    (row_entries c.args.how.now (rows_without c.args.place c.args.page.now.rows)) c.args.part.now
    s.new.part (swap p) s.ensures.nodes s.ensures.others s.ensures.shape

pub returns-clause-answer : goal.returns-clause-answer
returns-clause-answer c =
    row_answer c.args.how.now c.args.page.now.rows c.args.place
    (λ brought driven. upkeep_of c.args.part.now.spare brought driven)
    c.row_change_at-change.result c.swap_nodes.result c.row_change_at-change.ensures
    c.swap_nodes.ensures.answer
