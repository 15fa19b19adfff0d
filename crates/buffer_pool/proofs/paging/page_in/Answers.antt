use Rattle.buffer_pool.proofs.PageLemmas.{live_below}
use Rattle.buffer_pool.proofs.paging.page_in.Goals as goal

pub hold_page-requires-clause-there : goal.hold_page-requires-clause-there
hold_page-requires-clause-there g c =
    live_below c.args.pass.now c.args.page c.fits.ensures c.requires.live

pub unreachable-requires : goal.unreachable-requires
unreachable-requires g c = c.in_default.ensures.did.never c.requires.live
