use Rattle.std.proofs.Common.{◌∙◌, ◌+◌, ℕ, Bool, cond, ap, ap₂, arith}
use Rattle.page_rows.proofs.DeleteRowLemmas.{row_between, can_leave, record_between, size_between, gaps_told}
use Rattle.page_rows.proofs.deleting.gaps_without.Goals as goal

pub measure-extent-requires-clause-there : goal.measure-extent-requires-clause-there
measure-extent-requires-clause-there c = record_between (row_between c.requires.3)

pub loses_slot-goes-requires : goal.loses_slot-goes-requires
loses_slot-goes-requires c =
    let can = c.requires.3 in
    let r = row_between can in
    (can.page.parts.mirror, can.page.parts.groups, can.page.parts.free, r.b, can_leave can r)

pub overflow_add-result : goal.overflow_add-result
overflow_add-result c =
    let rest = c.page_rest-rest.ensures c.args.fields c.requires.3.page in
    grind (arith, rest, c.slot_bytes.ensures)

pub returns : goal.returns
returns c = λ left row right can.
    let p = can.page.parts in
    let r = row_between can in
    let size = size_between r c.measure-extent.ensures.start c.measure-extent.ensures.end in
    let goes = c.loses_slot-goes.ensures p.mirror p.groups p.free r.b (can_leave can r) in
    gaps_told can r _ (omega (arith, size))
    (ap₂ (λ (x y : ℕ). x + y) (c.page_rest-rest.ensures c.args.fields can.page) (c.slot_bytes.ensures ∙ ap (λ (t : Bool). cond t 2 0) goes))
