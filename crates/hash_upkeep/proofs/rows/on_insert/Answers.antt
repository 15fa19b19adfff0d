use Rattle.std.proofs.Common.{subst}
use Rattle.index_page.specs.Changes.{rows_without}
use Rattle.hash_law.specs.Changes.{Exchanges}
use Rattle.hash_upkeep.specs.Hashing.{row_nodes, row_entries}
use Rattle.hash_upkeep.specs.Cover.{AreCovered}
use Rattle.hash_upkeep.specs.Change.{few_nodes}
use Rattle.hash_upkeep.specs.Upkeep.{upkeep_of}
use Rattle.hash_upkeep.proofs.ChangeLemmas.{row_exchange, row_answer, without_at}
use Rattle.hash_upkeep.proofs.KeepLemmas.{Swaps, swaps, own_entries, renews_kept, exact_covers, more_cover}
use Rattle.hash_upkeep.proofs.RoomLemmas.{room_after}
use Rattle.hash_upkeep.proofs.rows.on_insert.Goals as goal
use Rattle.hash_upkeep.proofs.rows.on_insert.Goals.{After-row_change_at-change}

swap : (c : After-row_change_at-change)
    → Swaps c.args.how.now.block c.args.part.now.nodes
    (few_nodes c.row_change_at-change.result.driven)
    (few_nodes c.row_change_at-change.result.brought)
    (row_entries c.args.how.now c.args.page.now.rows)
swap c = let how = c.args.how.now in let rows = c.args.page.now.rows in
    let rest = rows_without c.args.place rows in
    let change = c.row_change_at-change in
    let exchange =
    row_exchange how rows c.args.place change.result c.is_in_order.ensures.places change.ensures in
    swaps how.block (row_entries how rest) (few_nodes change.result.driven)
    (few_nodes change.result.brought) (row_entries how rows) c.args.part.now.nodes
    exchange.comes
    (own_entries how rest) (own_entries how rows) c.requires.exact

pub swap_nodes-requires-clause-covered : goal.swap_nodes-requires-clause-covered
swap_nodes-requires-clause-covered c =
    let how = c.args.how.now in let rows = c.args.page.now.rows in
    let is = c.row_change_at-change.ensures in
    more_cover how how.block rows is.left is.row is.right c.args.part.now.nodes is.parts
    (subst (λ r. AreCovered how.block c.args.part.now.nodes (row_nodes how r))
    (without_at how rows c.args.place c.row_change_at-change.result c.is_in_order.ensures.places is)
    (exact_covers how (rows_without c.args.place rows) c.args.part.now.nodes c.requires.exact))

pub swap_nodes-requires-clause-there : goal.swap_nodes-requires-clause-there
swap_nodes-requires-clause-there c =
    (swap (goal.at.swap_nodes-requires-clause-there c).After-row_change_at-change).there

pub swap_nodes-requires-clause-goes : goal.swap_nodes-requires-clause-goes
swap_nodes-requires-clause-goes c =
    (swap (goal.at.swap_nodes-requires-clause-goes c).After-row_change_at-change).goes_own

pub swap_nodes-requires-clause-comes : goal.swap_nodes-requires-clause-comes
swap_nodes-requires-clause-comes c =
    (swap (goal.at.swap_nodes-requires-clause-comes c).After-row_change_at-change).comes_own

pub returns-clause-room : goal.returns-clause-room
returns-clause-room c = let how = c.args.how.now in let rows = c.args.page.now.rows in
    let rest = rows_without c.args.place rows in let s = c.swap_nodes in
    let change = c.row_change_at-change in
    let exchange =
    row_exchange how rows c.args.place change.result c.is_in_order.ensures.places change.ensures in
    room_after s.result how.block (few_nodes change.result.driven) (few_nodes change.result.brought)
    (row_entries how rest) (row_entries how rows) c.args.part.now s.new.part
    (Exchanges c.args.part.now.nodes (few_nodes change.result.driven)
    (few_nodes change.result.brought) s.new.part.nodes)
    s.ensures.answer exchange.comes.number (own_entries how rest) c.requires.exact s.ensures.nodes
    s.ensures.others s.ensures.shape

pub returns-clause-part : goal.returns-clause-part
returns-clause-part c = let p = (goal.at.returns-clause-part c).After-row_change_at-change in
    let s = c.swap_nodes in let change = c.row_change_at-change.result in
    renews_kept c.args.how.now.block s.result (few_nodes change.driven) (few_nodes change.brought)
    (row_entries c.args.how.now c.args.page.now.rows) c.args.part.now s.new.part (swap p)
    s.ensures.nodes s.ensures.others s.ensures.shape

pub returns-clause-answer : goal.returns-clause-answer
returns-clause-answer c =
    row_answer c.args.how.now c.args.page.now.rows c.args.place
    (λ brought driven. upkeep_of c.args.part.now.spare driven brought)
    c.row_change_at-change.result c.swap_nodes.result c.row_change_at-change.ensures
    c.swap_nodes.ensures.answer
