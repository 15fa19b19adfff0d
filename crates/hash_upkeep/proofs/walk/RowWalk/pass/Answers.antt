use Rattle.std.proofs.Common.{◌≡◌, ◌++◌, cond, Some, None, sym, ap, ◌∙◌, subst, arith, length}
use Rattle.index_page.specs.Rows.{first_of_rows}
use Rattle.hash_law.specs.Entries.{first_or, unless_alike}
use Rattle.hash_upkeep.specs.Walk.{nodes_from_node, entries_ahead, entries_behind}
use Rattle.hash_upkeep.proofs.WalkLemmas.{PassesRow, passes_row, found_from, ahead_is, entered_if, passed_if}
use Rattle.hash_upkeep.proofs.walk.RowWalk.pass.Goals as goal
use Rattle.hash_upkeep.proofs.walk.RowWalk.pass.Goals.{then-how, else-how}

pub next_near-requires : goal.next_near-requires
next_near-requires c = let how = c.args.how.now in let rows = c.args.page.now.rows in
    found_from how c.args.node.place rows c.args.node
    (subst (λ a. first_or None (nodes_from_node how rows a) ≡ a) c.requires.there c.requires.on)

passes : (c : goal.After-shares_fold)
    → PassesRow c.args.how.now c.args.page.now.rows c.args.self.now.passed c.args.node
    c.node_beside-next.result
passes c = let how = c.args.how.now in let rows = c.args.page.now.rows in
    passes_row how rows c.args.self.now.passed c.args.node c.next_near.result c.node_beside-next.result
    c.is_in_order.ensures.places c.next_near.ensures
    (subst (λ a. first_or None (nodes_from_node how rows a) ≡ a) c.requires.there c.requires.on)
    (c.node_beside-next.ensures (first_of_rows c.next_near.ensures.right) c.next_near.ensures.next_at)

ahead : (c : goal.After-shares_fold)
    → entries_ahead c.args.how.now c.args.page.now.rows c.args.self.now
    ≡ unless_alike c.if-how.neighbour c.args.node
    ++ entries_behind c.args.how.now.params.left (Some c.args.node)
    (nodes_from_node c.args.how.now c.args.page.now.rows c.node_beside-next.result)
ahead c = let how = c.args.how.now in
    let beside : c.if-how.neighbour
    ≡ cond how.params.left c.args.self.now.passed c.node_beside-next.result =
    elim c.if-how.branch [
      | then-how w ↦ w.neighbour-is
          ∙ ap (λ b. cond b c.args.self.now.passed c.node_beside-next.result) (sym w.if-how.true)
      | else-how w ↦ w.neighbour-is
          ∙ ap (λ b. cond b c.args.self.now.passed c.node_beside-next.result) (sym w.if-how.false)
    ] in
    ahead_is how c.args.page.now.rows c.args.self.now.passed c.args.self.now.ahead c.args.node
    c.node_beside-next.result c.if-how.neighbour c.requires.there (passes c) beside

pub returns-clause-stays_on : goal.returns-clause-stays_on
returns-clause-stays_on c = (passes c).on

pub returns-clause-entered : goal.returns-clause-entered
returns-clause-entered c =
    entered_if c.shares_fold.result c.if-how.neighbour c.args.node _ _ c.shares_fold.ensures
    (ahead c)

pub returns-clause-passed_over : goal.returns-clause-passed_over
returns-clause-passed_over c =
    passed_if c.shares_fold.result c.if-how.neighbour c.args.node _ _ c.shares_fold.ensures
    (ahead c)

pub returns-clause-nearer : goal.returns-clause-nearer
returns-clause-nearer c = let how = c.args.how.now in let rows = c.args.page.now.rows in
    let there : length (nodes_from_node how rows c.args.self.now.ahead)
    ≡ length (nodes_from_node how rows (Some c.args.node)) =
    ap (λ a. length (nodes_from_node how rows a)) c.requires.there in
    omega (arith, (passes c).nearer, there)
