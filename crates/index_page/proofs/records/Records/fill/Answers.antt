use Rattle.std.proofs.Common.{set, ap, ◌∙◌, List, length, arith}
use Rattle.index_page.specs.Store.{Content, beside_by}
use Rattle.list_facts.proofs.Outcomes.{when_err}
use Rattle.index_page.proofs.SlotLemmas.{same_contents, same_slots, put_slots, put_contents}
use Rattle.index_page.specs.Slots.{content_in}
use Rattle.std.proofs.lemmas.List.{length-map}
use Rattle.index_page.proofs.records.Records.fill.Goals as goal

pub returns-in_err-slot-clause-err : goal.returns-in_err-slot-clause-err
returns-in_err-slot-clause-err g c =
    let same = same_contents c.self.inside.bytes.items c.append_row.new.bytes.items c.self.inside.slots.items c.in_err-slot.ensures.err c.self.invariant.each in
    when_err c.from_residual.result (same ∙ c.self.view_is ∙ c.put_anew.ensures)

pub invariant_of-self : goal.invariant_of-self
invariant_of-self g c = same_slots c.self.inside.bytes.items c.append_row.new.bytes.items c.self.inside.slots.items c.in_err-slot.ensures.err c.self.invariant

pub invariant_of-self-2 : goal.invariant_of-self-2
invariant_of-self-2 g c = put_slots c.self.inside.bytes.items c.append_row.new.bytes.items c.self.inside.slots.items c.in_ok-slot.slot _ c.self.invariant c.in_ok-slot.ensures.ok c.args.number

pub returns-clause-ok : goal.returns-clause-ok
returns-clause-ok g c =
    let put = put_contents c.self.inside.bytes.items c.append_row.new.bytes.items c.self.inside.slots.items c.in_ok-slot.slot _ c.self.invariant c.in_ok-slot.ensures.ok c.args.number in
    put ∙ ap (λ (xs : List Content). set xs c.args.number (record { key = g.A.Fields.fields_of c.args.key.now; body = beside_by c.args.beside })) (c.self.view_is ∙ c.put_anew.ensures)

pub index_mut-requires : goal.index_mut-requires
index_mut-requires g c =
    omega (arith, c.requires.there, ap length (c.self.view_is ∙ c.put_anew.ensures), length-map c.self.inside.slots.items (content_in c.self.inside.bytes.items), c.self.inside.slots.ok.0)
