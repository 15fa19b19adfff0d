use Rattle.std.proofs.Common.{ap, refl}
use Rattle.index_page.specs.declared.head.PageHead.{PageHead}
use Rattle.tree_growth.proofs.RoomLemmas.{tells_room}
use Rattle.tree_growth.proofs.looking.room_on.Goals as goal

pub returns : goal.returns
returns c = tells_room c.args.page.now c.is_in_order.ensures c.args.block c.args.need
    c.head.result.now.level c.room_for.result _ c.load.result
    (ap (λ (h : PageHead). h.level) c.head.ensures) c.room_for.ensures.room c.room_for.ensures.most
    refl c.load.ensures
