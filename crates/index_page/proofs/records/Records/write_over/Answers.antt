use Rattle.std.proofs.Common.{◌∙◌, arith, ap, length}
use Rattle.index_page.proofs.SlotLemmas.{stands, over_contents, over_slots, with_value}
use Rattle.index_page.specs.Slots.{content_in}
use Rattle.index_page.proofs.RowLemmas.{get_below}
use Rattle.std.proofs.lemmas.List.{length-map}
use Rattle.index_page.proofs.records.Records.write_over.Goals as goal

pub overflow_cast-cut : goal.overflow_cast-cut
overflow_cast-cut c =
    let st = stands c.self.inside.bytes.items c.self.inside.slots.items c.args.self.now c.args.number c.index-slot.result.now c.self.invariant c.self.view_is c.index-slot.ensures c.requires.there in
    omega (arith, st.carries.long, c.requires.short c.requires.there)

pub overflow_add-cut : goal.overflow_add-cut
overflow_add-cut c =
    let st = stands c.self.inside.bytes.items c.self.inside.slots.items c.args.self.now c.args.number c.index-slot.result.now c.self.invariant c.self.view_is c.index-slot.ensures c.requires.there in
    omega (arith, st.carries.long, st.is.value, c.requires.short c.requires.there)

pub index_mut-requires : goal.index_mut-requires
index_mut-requires c =
    let st = stands c.self.inside.bytes.items c.self.inside.slots.items c.args.self.now c.args.number c.index-slot.result.now c.self.invariant c.self.view_is c.index-slot.ensures c.requires.there in
    omega (arith, st.below, c.self.inside.slots.ok.0)

pub invariant_of-self : goal.invariant_of-self
invariant_of-self c =
    let st = stands c.self.inside.bytes.items c.self.inside.slots.items c.args.self.now c.args.number c.index-slot.result.now c.self.invariant c.self.view_is c.index-slot.ensures c.requires.there in
    rw c.put_bytes.ensures (over_slots c.self.inside.bytes.items c.args.value.now c.index-slot.result.now st.is (omega (arith, st.carries.long, c.requires.short c.requires.there)) c.self.inside.slots.items c.args.number st.there c.self.invariant)

pub returns : goal.returns
returns c = λ carries.
    let st = stands c.self.inside.bytes.items c.self.inside.slots.items c.args.self.now c.args.number c.index-slot.result.now c.self.invariant c.self.view_is c.index-slot.ensures carries in
    let put = over_contents c.self.inside.bytes.items c.args.value.now c.index-slot.result.now st.is (omega (arith, st.carries.long, c.requires.short carries)) c.self.inside.slots.items c.args.number st.there c.self.invariant.each c.self.invariant.apart in
    let same = with_value c.self.inside.bytes.items c.index-slot.result.now carries.key carries.value c.args.value.now _ c.args.self.now c.args.number c.self.view_is st.carries in
    c.leave.ensures ∙ rw c.put_bytes.ensures (put ∙ same)

pub put_bytes-requires : goal.put_bytes-requires
put_bytes-requires c =
    let st = stands c.self.inside.bytes.items c.self.inside.slots.items c.args.self.now c.args.number c.index-slot.result.now c.self.invariant c.self.view_is c.index-slot.ensures c.requires.there in
    omega (arith, st.carries.long, st.is.value, st.is.within, c.requires.short c.requires.there)

pub index-slot-requires : goal.index-slot-requires
index-slot-requires c =
    omega (arith, get_below c.args.self.now c.args.number _ c.requires.there.there, ap length c.self.view_is, length-map c.self.inside.slots.items (content_in c.self.inside.bytes.items), c.self.inside.slots.ok.0)
