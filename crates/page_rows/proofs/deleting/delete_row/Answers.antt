use Rattle.std.proofs.Common.{arith}
use Rattle.page_rows.proofs.DeleteRowLemmas.{row_between, can_leave, record_between, size_between, parts_left, is_loose, row_deleted}
use Rattle.page_rows.proofs.deleting.delete_row.Goals as goal

pub measure-extent-requires-clause-there : goal.measure-extent-requires-clause-there
measure-extent-requires-clause-there c = record_between (row_between c.requires.3)

pub leave_list-requires : goal.leave_list-requires
leave_list-requires c =
    let can = c.requires.3 in
    let r = row_between can in
    (can.page.parts.mirror, can.page.parts.groups, can.page.parts.free, r.b, can_leave can r)

pub overflow_sub-extent : goal.overflow_sub-extent
overflow_sub-extent c =
    let r = row_between c.requires.3 in
    omega (arith, size_between r c.measure-extent.ensures.start c.measure-extent.ensures.end)

pub free_record-requires : goal.free_record-requires
free_record-requires c =
    let can = c.requires.3 in
    let r = row_between can in
    let l = c.leave_list.ensures can.page.parts.mirror can.page.parts.groups can.page.parts.free r.b (can_leave can r) in
    (c.args.fields, parts_left r l, r.b.here, is_loose c.measure-extent.result.start c.measure-extent.result.end can r l (size_between r c.measure-extent.ensures.start c.measure-extent.ensures.end))

pub returns : goal.returns
returns c = λ left row right can.
    let r = row_between can in
    let l = c.leave_list.ensures can.page.parts.mirror can.page.parts.groups can.page.parts.free r.b (can_leave can r) in
    row_deleted can r l
    (c.free_record.ensures c.args.fields (parts_left r l) r.b.here (is_loose c.measure-extent.result.start c.measure-extent.result.end can r l (size_between r c.measure-extent.ensures.start c.measure-extent.ensures.end)))
