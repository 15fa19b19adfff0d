use Rattle.page_rows.proofs.TakingLemmas.{record_behind_fits, taken_behind}
use Rattle.page_rows.proofs.InsertRowLemmas.{row_gap, can_enter, parts_with}
use Rattle.page_rows.proofs.AppendLemmas.{can_insert, can_take_behind, row_appended}
use Rattle.page_rows.proofs.appending.append_row.Goals as goal

pub write_behind-at-requires-clause-size : goal.write_behind-at-requires-clause-size
write_behind-at-requires-clause-size g c = c.requires.1.size_is

pub write_behind-at-requires-clause-there : goal.write_behind-at-requires-clause-there
write_behind-at-requires-clause-there g c =
    let can = c.requires.1 in
    (can.page.parts.mirror, record_behind_fits (can_take_behind can))

pub enter_list-requires : goal.enter_list-requires
enter_list-requires g c =
    let can = c.requires.1 in
    let insert = can_insert can in
    let behind = can_take_behind can in
    let t = taken_behind behind (c.write_behind-at.ensures can.page.parts.mirror (record_behind_fits behind)) in
    let r = row_gap t.h can.page.spells insert.rows in
    ((parts_with t).mirror, can.page.parts.groups, t.free, r.gap, can_enter insert t r)

pub returns : goal.returns
returns g c = λ fields can.
    let insert = can_insert can in
    let behind = can_take_behind can in
    let o = c.write_behind-at.ensures can.page.parts.mirror (record_behind_fits behind) in
    let t = taken_behind behind o in
    let r = row_gap t.h can.page.spells insert.rows in
    row_appended can o t r (c.enter_list.ensures (parts_with t).mirror can.page.parts.groups t.free r.gap (can_enter insert t r))
