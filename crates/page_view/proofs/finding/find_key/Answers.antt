use Rattle.std.proofs.Common.{◌∙◌, sym, subst}
use Rattle.page_view.specs.Finding.{IsFoundAt}
use Rattle.page_view.proofs.ValueLemmas.{has_row, value-none}
use Rattle.page_view.proofs.finding.find_key.Goals as goal

pub returns-then-spot-count : goal.returns-then-spot-count
returns-then-spot-count c =
    let key = c.args.key.now.tuple in
    let page = c.args.page.now in
    let tells = c.spots_tell_keys.ensures page key c.args.spot.now c.is_in_order.ensures
    c.requires.fields c.tuple.ensures.some c.requires.finds in
    let has = tells.there (c.if-spot-count.true ∙ c.count.ensures) in
    subst (IsFoundAt page key) (sym has.after_at.0)
    (has_row key page has.row.place has.row c.is_in_order.ensures c.requires.level has.after_at.1
    has.key_is)

pub returns-else-spot-count : goal.returns-else-spot-count
returns-else-spot-count c =
    let key = c.args.key.now.tuple in
    let page = c.args.page.now in
    let tells = c.spots_tell_keys.ensures page key c.args.spot.now c.is_in_order.ensures
    c.requires.fields c.tuple.ensures.some c.requires.finds in
    value-none key page.rows (tells.absent (λ e. c.if-spot-count.false (e ∙ sym c.count.ensures)))
