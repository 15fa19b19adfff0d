use Rattle.std.proofs.Common.{◌∙◌, arith, [], sym, append-nil}
use Rattle.index_page.specs.Slots.{PutsRecord}
use Rattle.list_facts.proofs.Outcomes.{when_err}
use Rattle.index_page.proofs.SlotLemmas.{slot_made}
use Rattle.index_page.proofs.AgainLemmas.{grew_twice, puts_again}
use Rattle.index_page.proofs.appending.append_again.Goals as goal

pub returns-in_err-extend_from_slice-clause-err : goal.returns-in_err-extend_from_slice-clause-err
returns-in_err-extend_from_slice-clause-err c =
    when_err c.from_residual-in_err-extend_from_slice.result (record { more = _; items = c.in_err-extend_from_slice.ensures.items ∙ c.in_ok-extend_from_within.ensures.items })

pub returns-clause-ok : goal.returns-clause-ok
returns-clause-ok c =
    let old = c.args.bytes.now in
    let mid = c.extend_from_within.new.self in
    let new = c.extend_from_slice.new.self in
    slot_made c.moved.result _ (λ moved. PutsRecord old.items new.items moved _) (puts_again old.items mid.items new.items old.items c.args.value.now c.args.slot.now c.len-start.result c.len-middle.result c.len.result c.requires c.in_ok-extend_from_within.ensures.items c.in_ok-extend_from_slice.ensures.items (omega (arith, c.len-start.ensures, old.ok.0)) (omega (arith, c.len-middle.ensures, mid.ok.0)) (omega (arith, c.len.ensures, new.ok.0))) c.moved.ensures

pub returns-clause-err : goal.returns-clause-err
returns-clause-err c =
    when_err c.moved.result (grew_twice _ _ c.in_ok-extend_from_within.ensures.items c.in_ok-extend_from_slice.ensures.items)

pub returns-in_err-extend_from_within-clause-err : goal.returns-in_err-extend_from_within-clause-err
returns-in_err-extend_from_within-clause-err c =
    when_err c.from_residual.result (record { more = []; items = c.in_err-extend_from_within.ensures.items ∙ sym (append-nil c.args.bytes.now.items) })

pub moved-requires-clause-key : goal.moved-requires-clause-key
moved-requires-clause-key c = let added = c.in_ok-extend_from_within.ensures.len in omega (arith, c.len-start.ensures, c.len-middle.ensures, added)
