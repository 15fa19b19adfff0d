use Rattle.std.proofs.Common.{◌≡◌, true, false, None, sym, ap, ◌∙◌, subst}
use Rattle.index_page.specs.Page.{PlacesDiffer}
use Rattle.index_page.specs.Rows.{find_row, first_of_rows, last_of_rows}
use Rattle.index_page.proofs.RowLemmas.{find_among}
use Rattle.hash_law.specs.Entries.{first_or, last_or}
use Rattle.hash_law.proofs.RowLemmas.{nodes_follow}
use Rattle.hash_law.specs.Blocks.{folds_of}
use Rattle.hash_upkeep.specs.Hashing.{row_node, row_nodes}
use Rattle.hash_upkeep.proofs.ChangeLemmas.{changes_at}
use Rattle.hash_upkeep.proofs.change.row_change_at.Goals as goal
use Rattle.hash_upkeep.proofs.change.row_change_at.Goals.{After-node_beside-after}

node_is : (c : After-node_beside-after)
    → c.node-node.result ≡ row_node c.args.how.now c.beside-prev.ensures.row
node_is c = let b = c.beside-prev.ensures in let rows = c.args.page.now.rows in
    let differ = subst PlacesDiffer b.split c.is_in_order.ensures.places in
    c.node-node.ensures b.row
    (ap (λ p. find_row p rows) (sym b.place_is)
    ∙ (ap (find_row b.row.place) b.split ∙ find_among b.left b.row b.right differ))

before_is : (c : After-node_beside-after)
    → c.node_beside-before.result
    ≡ last_or None (row_nodes c.args.how.now c.beside-prev.ensures.left)
before_is c = let b = c.beside-prev.ensures in let how = c.args.how.now in
    c.node_beside-before.ensures (last_of_rows b.left) b.prev_at
    ∙ sym (nodes_follow.last (folds_of how.bits how.index how.params) how.block b.left)

after_is : (c : After-node_beside-after)
    → c.node_beside-after.result
    ≡ first_or None (row_nodes c.args.how.now c.beside-prev.ensures.right)
after_is c = let b = c.beside-prev.ensures in let how = c.args.how.now in
    c.node_beside-after.ensures (first_of_rows b.right) b.next_at
    ∙ sym (nodes_follow.first (folds_of how.bits how.index how.params) how.block b.right)

pub returns-then-how : goal.returns-then-how
returns-then-how c = let p = (goal.at.returns-then-how c).After-node_beside-after in
    changes_at c.args.how.now c.args.page.now.rows c.args.place _ _ c.beside-prev.ensures true
    c.if-how.true c.node_beside-before.result c.node_beside-after.result c.node-node.result
    (node_is p) (before_is p) (after_is p) c.change_between.result
    c.change_between.ensures.brought c.change_between.ensures.driven

pub returns-else-how : goal.returns-else-how
returns-else-how c = let p = (goal.at.returns-else-how c).After-node_beside-after in
    changes_at c.args.how.now c.args.page.now.rows c.args.place _ _ c.beside-prev.ensures false
    c.if-how.false c.node_beside-before.result c.node_beside-after.result c.node-node.result
    (node_is p) (before_is p) (after_is p) c.change_between-else-how.result
    c.change_between-else-how.ensures.brought c.change_between-else-how.ensures.driven
