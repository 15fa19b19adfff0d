use Rattle.std.proofs.Common.{◌+◌, ◌-◌, refl, arith, [], sym, append-nil, ◌∙◌, drop, length-take, length-drop}
use Rattle.index_page.specs.Slots.{PutsRecord}
use Rattle.list_facts.proofs.Outcomes.{when_err}
use Rattle.index_page.proofs.SlotLemmas.{slot_made}
use Rattle.index_page.proofs.AgainLemmas.{puts_copy}
use Rattle.index_page.proofs.appending.append_copy.Goals as goal

pub returns-clause-ok : goal.returns-clause-ok
returns-clause-ok c =
    let old = c.args.bytes.now in
    let new = c.extend_from_slice.new.self in
    let slot = c.args.slot.now in
    slot_made c.moved.result _ (λ moved. PutsRecord old.items new.items moved _) (puts_copy old.items new.items c.args.from.now slot c.len-start.result (c.len-start.result + (slot.middle - slot.start)) c.len.result c.requires c.in_ok-extend_from_slice.ensures.items (omega (arith, c.len-start.ensures, old.ok.0)) refl (omega (arith, c.len.ensures, new.ok.0))) c.moved.ensures

pub returns-clause-err : goal.returns-clause-err
returns-clause-err c = when_err c.moved.result (record { more = _; items = c.in_ok-extend_from_slice.ensures.items })

pub returns-in_err-extend_from_slice-clause-err : goal.returns-in_err-extend_from_slice-clause-err
returns-in_err-extend_from_slice-clause-err c =
    when_err c.from_residual.result (record { more = []; items = c.in_err-extend_from_slice.ensures.items ∙ sym (append-nil c.args.bytes.now.items) })

pub moved-requires-clause-value : goal.moved-requires-clause-value
moved-requires-clause-value c =
    let from = c.args.from.now in
    let slot = c.args.slot.now in
    let added = c.in_ok-extend_from_slice.ensures.len in
    omega (arith, c.requires.key, c.requires.value, c.requires.within, c.len-start.ensures, c.len.ensures, added, length-take (slot.stop - slot.start) (drop slot.start from), length-drop slot.start from)
