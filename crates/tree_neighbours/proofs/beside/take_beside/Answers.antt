use Rattle.std.proofs.Common.{sym, refl}
use Rattle.latch_space.specs.Passes.{view}
use Rattle.tree_neighbours.proofs.NeighbourLemmas.{beside_live, beside_others, takes_beside, is_busy}
use Rattle.tree_neighbours.proofs.beside.take_beside.Goals as goal

pub returns-in_default-clause-tells : goal.returns-in_default-clause-tells
returns-in_default-clause-tells g c = record {
  holds = c.requires.held;
  last = sym (c.in_default.ensures c.args.index c.requires.held);
  same = refl;
}

pub page_in-requires-clause-live : goal.page_in-requires-clause-live
page_in-requires-clause-live g c =
    beside_live (view c.args.pass.now) c.args.block c.args.index c.args.side c.requires.held
    c.in-Some.other (sym (c.in-Some.ensures c.args.index c.requires.held))

pub page_in-requires-clause-others : goal.page_in-requires-clause-others
page_in-requires-clause-others g c =
    beside_others (view c.args.pass.now) c.args.block c.args.index c.args.side c.requires.held
    c.in-Some.other (sym (c.in-Some.ensures c.args.index c.requires.held)) c.fits.ensures
    c.requires.frames

pub try_page-requires-clause-live : goal.try_page-requires-clause-live
try_page-requires-clause-live g c =
    beside_live (view c.args.pass.now) c.args.block c.args.index c.args.side c.requires.held
    c.in-Some.other (sym (c.in-Some.ensures c.args.index c.requires.held))

pub try_page-requires-clause-others : goal.try_page-requires-clause-others
try_page-requires-clause-others g c =
    beside_others (view c.args.pass.now) c.args.block c.args.index c.args.side c.requires.held
    c.in-Some.other (sym (c.in-Some.ensures c.args.index c.requires.held)) c.fits.ensures
    c.requires.frames

pub returns-in-Right-clause-tells : goal.returns-in-Right-clause-tells
returns-in-Right-clause-tells g c =
    takes_beside c.args.pass.now c.args.block c.args.index c.args.side c.requires.held
    c.in-Some.other (sym (c.in-Some.ensures c.args.index c.requires.held)) c.page_in.new.pass
    c.page_in.result c.page_in.ensures.took c.page_in.ensures.fits

pub returns-in-Some-try_page-clause-tells : goal.returns-in-Some-try_page-clause-tells
returns-in-Some-try_page-clause-tells g c =
    takes_beside c.args.pass.now c.args.block c.args.index c.args.side c.requires.held
    c.in-Some.other (sym (c.in-Some.ensures c.args.index c.requires.held)) c.try_page.new.pass
    c.in-Some-try_page.found c.in-Some-try_page.ensures.did c.try_page.ensures.fits

pub returns-in-None-clause-tells : goal.returns-in-None-clause-tells
returns-in-None-clause-tells g c =
    is_busy c.args.pass.now c.args.block c.args.index c.args.side c.requires.held c.in-Some.other
    (sym (c.in-Some.ensures c.args.index c.requires.held)) c.try_page.new.pass c.in-Left.is
    c.in-None.ensures.did
