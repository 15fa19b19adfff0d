use Rattle.std.proofs.Common.{◌∙◌, sym, ap, arith}
use Rattle.index_page.specs.Rows.{Row, Bytes}
use Rattle.index_page.specs.Page.{PageRows}
use Rattle.index_page.specs.Loads.{charge_of, load_of}
use Rattle.list_facts.proofs.Places.{same_some}
use Rattle.index_page.proofs.WithoutLemmas.{others_load, charge_within_load}
use Rattle.index_page.proofs.RefusalLemmas.{value_charge}
use Rattle.index_page.proofs.page.Page.load_with.Goals as goal

pub overflow_sub-others : goal.overflow_sub-others
overflow_sub-others c =
    let load = c.self.inside.charged ∙ ap (λ (p : PageRows). load_of p.rows) c.self.view_is in
    charge_within_load c.args.self.now.rows c.args.place c.self.inside.load c.charge_at.result c.is_in_order.ensures.places c.requires.there load c.charge_at.ensures

pub returns : goal.returns
returns c = λ row there.
    let load = c.self.inside.charged ∙ ap (λ (p : PageRows). load_of p.rows) c.self.view_is in
    let rest = others_load c.args.self.now.rows c.args.place row c.self.inside.load c.charge_at.result c.is_in_order.ensures.places there load (c.charge_at.ensures row there) in
    let need = value_charge c.row.result.row.key (Bytes c.args.value.now) c.as_bytes.result.now c.record_charge.result c.size_with_length.result (ap Bytes (sym c.as_bytes.ensures.bytes)) c.size_with_length.ensures.size c.record_charge.ensures.charge in
    let same = ap (λ (x : Row). charge_of x.key (Bytes c.args.value.now)) (same_some c.row.result.row row (sym c.row.ensures.row ∙ there)) in
    omega (arith, rest, need, same)
