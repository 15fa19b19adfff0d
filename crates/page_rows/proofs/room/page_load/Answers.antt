use Rattle.std.proofs.Common.{arith}
use Rattle.page_rows.proofs.RoomLemmas.{page_sums}
use Rattle.page_rows.proofs.room.page_load.Goals as goal

pub overflow_add-result : goal.overflow_add-result
overflow_add-result c =
    let s = c.requires.1.spells in
    let m = c.requires.1.parts.mirror in
    let sums = page_sums s in
    let room = s.page.is.room in
    omega (arith, c.heap_top.ensures m s.page.is, c.row_count.ensures m s.page.is, sums.few)

pub returns : goal.returns
returns c = λ fields p.
    let s = p.spells in
    let m = p.parts.mirror in
    let sums = page_sums s in
    omega (arith, c.heap_top.ensures m s.page.is, c.garbage.ensures m s.page.is, c.row_count.ensures m s.page.is, s.used, sums.load, sums.rows)
