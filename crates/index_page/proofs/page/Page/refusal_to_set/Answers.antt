use Rattle.std.proofs.Common.{◌∙◌, length, sym, ap, arith}
use Rattle.index_page.specs.Rows.{Bytes}
use Rattle.index_page.specs.Page.{PageRows}
use Rattle.index_page.specs.Loads.{load_of}
use Rattle.index_page.proofs.WithoutLemmas.{others_load, charge_within_load}
use Rattle.index_page.proofs.RefusalLemmas.{value_charge, set_refused}
use Rattle.index_page.proofs.page.Page.refusal_to_set.Goals as goal

pub overflow_sub-others : goal.overflow_sub-others
overflow_sub-others c =
    let load = c.self.inside.charged ∙ ap (λ (p : PageRows). load_of p.rows) c.self.view_is in
    charge_within_load c.args.self.now.rows c.args.place c.self.inside.load c.charge_at.result c.is_in_order.ensures.places c.requires.there load c.charge_at.ensures

pub overflow_sub-others-2 : goal.overflow_sub-others-2
overflow_sub-others-2 c = omega (arith, c.self.inside.charged, c.self.invariant.fits)

pub returns : goal.returns
returns c =
    let row = c.row-row.result.row in
    let value = c.args.value.now in
    let load = c.self.inside.charged ∙ ap (λ (p : PageRows). load_of p.rows) c.self.view_is in
    let rest = others_load c.args.self.now.rows c.args.place row c.self.inside.load c.charge_at.result c.is_in_order.ensures.places c.row-row.ensures.row load (c.charge_at.ensures row c.row-row.ensures.row) in
    let need = value_charge row.key (Bytes value) c.as_bytes-new.result.now c.record_charge.result c.size_with_length.result (ap Bytes (sym c.as_bytes-new.ensures.bytes)) c.size_with_length.ensures.size c.record_charge.ensures.charge in
    c.refusal_by.ensures ∙ set_refused c.args.self.now c.args.place row c.value-old.result.now value c.record_charge.result _ c.row-row.ensures.row c.value-old.ensures.bytes (λ e. c.if-new-old.false (ap length c.as_bytes-new.ensures.bytes ∙ e)) need (omega (arith, rest))

pub size_with_length-requires : goal.size_with_length-requires
size_with_length-requires c = omega (arith, ap length c.as_bytes-new.ensures.bytes, c.as_bytes-new.ensures.short)
