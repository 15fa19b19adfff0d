use Rattle.std.proofs.Common.{◌≡◌, rules, sym, subst, ◌∙◌}
use Rattle.std.specs.Prelude.{option_map}
use Rattle.list_facts.proofs.Places.{same_some}
use Rattle.index_page.specs.Page.{PageRows}
use Rattle.page_view.specs.Taking.{rows_from_place, TakesRows}
use Rattle.tree_cursor.specs.declared.filling.Ending.TheVariants.{Full, Past, Onward}
use Rattle.tree_cursor.specs.Fills.{Fills}
use Rattle.tree_cursor.proofs.FillLemmas.{fills_full, fills_to, fills_past, fills_onward}
use Rattle.tree_cursor.proofs.filling.fill.Goals as goal

pub returns-in-AtLimit-clause-ok : goal.returns-in-AtLimit-clause-ok
returns-in-AtLimit-clause-ok c = λ page paged.
    let to = option_map (λ t. t.now.fields) c.args.to in
    let same : c.in-Some.page ≡ page =
    same_some c.in-Some.page page (sym c.in-Some.is ∙ paged) in
    subst (λ (x : PageRows). Fills c.args.found.now x c.args.block c.args.start to c.args.left
    c.args.rows.now c.take_rows.new.rows Full c.args.cursor.now c.args.cursor.now) same
    (fills_full c.args.found.now c.in-Some.page c.args.block c.args.start to c.args.left
    c.args.rows.now c.take_rows.new.rows c.args.cursor.now c.is_in_order.ensures
    (subst (TakesRows (rows_from_place c.args.start c.in-Some.page.rows) to c.args.left
    c.args.rows.now c.take_rows.new.rows) c.in-AtLimit.is c.in_ok-take_rows.ensures.ok))

pub returns-in-AtTo-clause-ok : goal.returns-in-AtTo-clause-ok
returns-in-AtTo-clause-ok c = λ page paged.
    let to = option_map (λ t. t.now.fields) c.args.to in
    let same : c.in-Some.page ≡ page =
    same_some c.in-Some.page page (sym c.in-Some.is ∙ paged) in
    subst (λ (x : PageRows). Fills c.args.found.now x c.args.block c.args.start to c.args.left
    c.args.rows.now c.take_rows.new.rows Past c.args.cursor.now c.args.cursor.now) same
    (fills_to c.args.found.now c.in-Some.page c.args.block c.args.start to c.args.left
    c.args.rows.now c.take_rows.new.rows c.args.cursor.now c.is_in_order.ensures
    (subst (TakesRows (rows_from_place c.args.start c.in-Some.page.rows) to c.args.left
    c.args.rows.now c.take_rows.new.rows) c.in-AtTo.is c.in_ok-take_rows.ensures.ok))

pub returns-then-is_past_all-clause-ok : goal.returns-then-is_past_all-clause-ok
returns-then-is_past_all-clause-ok c = λ page paged.
    let to = option_map (λ t. t.now.fields) c.args.to in
    let same : c.in-Some.page ≡ page =
    same_some c.in-Some.page page (sym c.in-Some.is ∙ paged) in
    subst (λ (x : PageRows). Fills c.args.found.now x c.args.block c.args.start to c.args.left
    c.args.rows.now c.take_rows.new.rows Past c.args.cursor.now c.args.cursor.now) same
    (fills_past c.args.found.now c.in-Some.page c.args.block c.args.start to c.args.left
    c.args.rows.now c.take_rows.new.rows c.args.cursor.now c.is_in_order.ensures
    (subst (TakesRows (rows_from_place c.args.start c.in-Some.page.rows) to c.args.left
    c.args.rows.now c.take_rows.new.rows) c.in-AtPageEnd.is c.in_ok-take_rows.ensures.ok)
    (sym c.if-is_past_all.ensures))

pub returns-else-is_past_all-clause-ok : goal.returns-else-is_past_all-clause-ok
returns-else-is_past_all-clause-ok c = λ page paged.
    let to = option_map (λ t. t.now.fields) c.args.to in
    let same : c.in-Some.page ≡ page =
    same_some c.in-Some.page page (sym c.in-Some.is ∙ paged) in
    subst (λ (x : PageRows). Fills c.args.found.now x c.args.block c.args.start to c.args.left
    c.args.rows.now c.take_rows.new.rows Onward c.args.cursor.now c.move_to.new.cursor) same
    (fills_onward c.args.found.now c.in-Some.page c.args.block c.args.start to c.args.left
    c.args.rows.now c.take_rows.new.rows c.args.cursor.now c.is_in_order.ensures
    c.last_from.result c.move_to.new.cursor
    (subst (TakesRows (rows_from_place c.args.start c.in-Some.page.rows) to c.args.left
    c.args.rows.now c.take_rows.new.rows) c.in-AtPageEnd.is c.in_ok-take_rows.ensures.ok)
    (sym c.if-is_past_all.ensures)
    (search rules)
    c.last_from.ensures c.move_to.ensures)
