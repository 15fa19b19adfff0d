use Rattle.page_rows.proofs.InsertRowLemmas.{can_take, row_gap, can_enter, row_inserted, parts_with}
use Rattle.page_rows.proofs.inserting.insert_row.Goals as goal

pub take_room-at-requires : goal.take_room-at-requires
take_room-at-requires g c =
    let can = c.requires.2 in
    (can.page.parts, can_take can)

pub enter_list-requires : goal.enter_list-requires
enter_list-requires g c =
    let can = c.requires.2 in
    let t = c.take_room-at.ensures can.page.parts (can_take can) in
    let r = row_gap t.h can.page.spells can.rows in
    ((parts_with t).mirror, can.page.parts.groups, t.free, r.gap, can_enter can t r)

pub returns : goal.returns
returns g c = λ below above can.
    let t = c.take_room-at.ensures can.page.parts (can_take can) in
    let r = row_gap t.h can.page.spells can.rows in
    row_inserted can t r (c.enter_list.ensures (parts_with t).mirror can.page.parts.groups t.free r.gap (can_enter can t r))
