use Rattle.std.proofs.Common.{◌≡◌, None, sym, subst, ◌∙◌}
use Rattle.std.proofs.lemmas.Result.{IfOk-weaker}
use Rattle.list_facts.proofs.Places.{same_some}
use Rattle.map_history.specs.Map.{value_at}
use Rattle.index_page.specs.Page.{PageRows}
use Rattle.tree_law.specs.Pages.{row_pairs}
use Rattle.page_view.specs.Finding.{HasSpot}
use Rattle.leaf_rows.proofs.ChangeLemmas.{puts_row}
use Rattle.leaf_rows.proofs.changing.put_row.Goals as goal

pub returns-clause-ok : goal.returns-clause-ok
returns-clause-ok c =
    let key = c.args.key.now.tuple in
    let page = c.in-Some.page in
    let same = same_some c.requires.page page (sym c.requires.paged ∙ c.in-Some.is) in
    let absent = subst (λ (p : PageRows). value_at key (row_pairs p.rows) ≡ None) same
    c.requires.absent in
    IfOk-weaker c.insert.result _ _ (λ place put. puts_row c.args.frame.now page c.insert.new.page
    place key c.args.value.now c.in-Some.is absent c.insert.ensures.order put) c.insert.ensures.ok

pub insert-requires-clause-spot : goal.insert-requires-clause-spot
insert-requires-clause-spot c =
    subst (λ (p : PageRows). HasSpot p c.args.key.now.tuple c.args.spot.now)
    (same_some c.requires.page c.in-Some.page (sym c.requires.paged ∙ c.in-Some.is))
    c.requires.spot_is
