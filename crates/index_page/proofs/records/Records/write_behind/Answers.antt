use Rattle.std.proofs.Common.{◌∙◌, arith, ap, length}
use Rattle.list_facts.proofs.Outcomes.{when_err}
use Rattle.index_page.proofs.SlotLemmas.{stands, same_contents, same_slots, put_slots, put_contents, with_value}
use Rattle.index_page.specs.Slots.{content_in}
use Rattle.index_page.proofs.RowLemmas.{get_below}
use Rattle.std.proofs.lemmas.List.{length-map}
use Rattle.index_page.proofs.records.Records.write_behind.Goals as goal

pub returns-in_err-moved-clause-err : goal.returns-in_err-moved-clause-err
returns-in_err-moved-clause-err c =
    let same = same_contents c.self.inside.bytes.items c.append_again.new.bytes.items c.self.inside.slots.items c.in_err-moved.ensures.err c.self.invariant.each in
    when_err c.from_residual.result (same ∙ c.self.view_is)

pub invariant_of-self : goal.invariant_of-self
invariant_of-self c = same_slots c.self.inside.bytes.items c.append_again.new.bytes.items c.self.inside.slots.items c.in_err-moved.ensures.err c.self.invariant

pub index_mut-requires : goal.index_mut-requires
index_mut-requires c =
    let st = stands c.self.inside.bytes.items c.self.inside.slots.items c.args.self.now c.args.number c.index.result.now c.self.invariant c.self.view_is c.index.ensures c.requires in
    omega (arith, st.below, c.self.inside.slots.ok.0)

pub invariant_of-self-2 : goal.invariant_of-self-2
invariant_of-self-2 c = put_slots c.self.inside.bytes.items c.append_again.new.bytes.items c.self.inside.slots.items c.in_ok-moved.moved _ c.self.invariant c.in_ok-moved.ensures.ok c.args.number

pub returns-clause-ok : goal.returns-clause-ok
returns-clause-ok c = λ carries.
    let st = stands c.self.inside.bytes.items c.self.inside.slots.items c.args.self.now c.args.number c.index.result.now c.self.invariant c.self.view_is c.index.ensures carries in
    let put = put_contents c.self.inside.bytes.items c.append_again.new.bytes.items c.self.inside.slots.items c.in_ok-moved.moved _ c.self.invariant c.in_ok-moved.ensures.ok c.args.number in
    let same = with_value c.self.inside.bytes.items c.index.result.now carries.key carries.value c.args.value.now _ c.args.self.now c.args.number c.self.view_is st.carries in
    c.leave.ensures ∙ put ∙ same

pub append_again-requires : goal.append_again-requires
append_again-requires c =
    (stands c.self.inside.bytes.items c.self.inside.slots.items c.args.self.now c.args.number c.index.result.now c.self.invariant c.self.view_is c.index.ensures c.requires).is

pub index-requires : goal.index-requires
index-requires c =
    omega (arith, get_below c.args.self.now c.args.number _ c.requires.there, ap length c.self.view_is, length-map c.self.inside.slots.items (content_in c.self.inside.bytes.items), c.self.inside.slots.ok.0)
