use Rattle.std.proofs.Common.{◌≢◌}
use Rattle.index_page.specs.Rows.{Row}
use Rattle.index_page.proofs.RowLemmas.{each_found}
use Rattle.page_view.proofs.ValueLemmas.{leaf_values, none-lacks}
use Rattle.leaf_rows.proofs.changing.insert_at.Goals as goal

-- where all fields agreed, the row after the spot would have the key
pub insert_at-requires-clause-absent : goal.insert_at-requires-clause-absent
insert_at-requires-clause-absent c = λ e.
    let key = c.args.key.now.tuple in
    let page = c.args.page.now in
    let spot = c.requires.spot in
    let has = (c.spots_tell_keys.ensures page key c.args.spot.now c.is_in_order.ensures spot.fields
    c.tuple.ensures.some spot.finds).there e in
    let lacks = none-lacks key page.rows (leaf_values page c.is_in_order.ensures spot.level)
    c.requires.absent in
    each_found (λ (x : Row). x.key ≢ key) page.rows has.row.place has.row lacks has.after_at.1
    has.key_is
