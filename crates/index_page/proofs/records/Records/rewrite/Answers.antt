use Rattle.index_page.specs.Store.{Content}
use Rattle.std.proofs.Common.{sym, arith, ap, length, ◌≡◌, List, OnErr, subst}
use Rattle.index_page.proofs.SlotLemmas.{stands}
use Rattle.index_page.specs.Slots.{content_in, CarriesAt}
use Rattle.index_page.proofs.RowLemmas.{get_below}
use Rattle.std.proofs.lemmas.List.{length-map}
use Rattle.index_page.proofs.records.Records.rewrite.Goals as goal

pub returns-clause-ok : goal.returns-clause-ok
returns-clause-ok c = rw (sym c.put_anew.ensures) c.write_behind.ensures.ok

pub returns-clause-in_place : goal.returns-clause-in_place
returns-clause-in_place c = λ carries short.
    let st = stands c.self.inside.bytes.items c.self.inside.slots.items c.args.self.now c.args.number c.index-slot.result.now c.self.invariant c.self.view_is c.index-slot.ensures carries in
    absurd (omega (arith, st.carries.long, short, c.if-value-slot.false))

pub write_over-requires-clause-short : goal.write_over-requires-clause-short
write_over-requires-clause-short c =
    λ carries.
    let st = stands c.self.inside.bytes.items c.self.inside.slots.items c.args.self.now c.args.number c.index-slot.result.now c.self.invariant c.self.view_is c.index-slot.ensures carries in
    omega (arith, st.carries.long, c.if-value-slot.true)

pub overflow_sub-slot : goal.overflow_sub-slot
overflow_sub-slot c =
    (stands c.self.inside.bytes.items c.self.inside.slots.items c.args.self.now c.args.number c.index-slot.result.now c.self.invariant c.self.view_is c.index-slot.ensures c.requires).is.value

pub index-slot-requires : goal.index-slot-requires
index-slot-requires c =
    omega (arith, get_below c.args.self.now c.args.number _ c.requires.there, ap length c.self.view_is, length-map c.self.inside.slots.items (content_in c.self.inside.bytes.items), c.self.inside.slots.ok.0)

pub returns-clause-err : goal.returns-clause-err
returns-clause-err c = subst (λ (records : List Content). OnErr c.write_behind.result (c.write_behind.new.self ≡ records)) c.put_anew.ensures c.write_behind.ensures.err

pub write_behind-requires : goal.write_behind-requires
write_behind-requires c = subst (λ (records : List Content). CarriesAt records c.args.number) (sym c.put_anew.ensures) c.requires
