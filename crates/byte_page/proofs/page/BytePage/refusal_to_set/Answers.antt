use Rattle.std.proofs.Common.{◌∙◌, sym, arith}
use Rattle.index_page.specs.Page.{IsRowOf}
use Rattle.index_page.proofs.RowLemmas.{each_found}
use Rattle.index_page.proofs.WithoutLemmas.{others_load, charge_within_load}
use Rattle.page_rows.specs.Reading.{row_of_record}
use Rattle.byte_page.proofs.ReplaceLemmas.{refusal_told}
use Rattle.byte_page.proofs.page.BytePage.refusal_to_set.Goals as goal

pub charge-need-requires : goal.charge-need-requires
charge-need-requires c =
    let page = c.args.self.now.page in
    (each_found (IsRowOf page.head) page.rows c.args.place (row_of_record c.args.place c.row.result) c.is_in_order.ensures.each c.row.ensures).limits

pub overflow_sub-others : goal.overflow_sub-others
overflow_sub-others c =
    charge_within_load c.args.self.now.page.rows c.args.place c.load.result c.charge_at.result c.is_in_order.ensures.places c.requires.there c.load.ensures c.charge_at.ensures

pub returns : goal.returns
returns c =
    let form = c.args.self.now in
    let place = c.args.place in
    let row = row_of_record place c.row.result in
    let rest = others_load form.page.rows place row c.load.result c.charge_at.result c.is_in_order.ensures.places c.row.ensures c.load.ensures (c.charge_at.ensures row c.row.ensures) in
    c.refusal_by.ensures ∙ refusal_told form place row c.args.value.now c.charge-need.result _ c.gaps_without.result c.row.ensures (sym (c.is_as_long.ensures row c.row.ensures) ∙ c.if-is_as_long.false)
    c.charge-need.ensures.charge (omega (arith, rest)) (c.gaps_without.ensures row c.row.ensures)
