use Rattle.buffer_pool.proofs.AgainLemmas.{passes_both}
use Rattle.buffer_pool.proofs.CallLemmas.{frame_has}
use Rattle.leaf_search.proofs.KeepLemmas.{figures_go_back, figures_whole, figures_follow, figures_become}
use Rattle.leaf_search.proofs.building.keep_figures.Goals as goal

pub frame_back-requires-clause-out : goal.frame_back-requires-clause-out
frame_back-requires-clause-out c = figures_go_back c.args.pass.now c.frame_out-frame.new.pass
    c.frame_out-frame.new.pass c.args.block c.requires.teach.0 c.args.figures.now c.requires.teach.1
    c.requires.known c.frame_out-frame.result c.frame_out-frame.ensures.out

pub settle-requires-clause-whole : goal.settle-requires-clause-whole
settle-requires-clause-whole c = figures_whole c.args.pass.now c.frame_out-frame.new.pass
    c.frame_back.new.pass c.args.block c.requires.teach.0 c.args.figures.now c.requires.teach.1
    c.requires.known c.frame_out-frame.result c.frame_out-frame.ensures.out c.frame_back.ensures.back

pub settle-requires-clause-rule : goal.settle-requires-clause-rule
settle-requires-clause-rule c = figures_follow c.args.pass.now c.frame_out-frame.new.pass
    c.frame_back.new.pass c.args.block c.requires.teach.0 c.args.figures.now c.requires.teach.1
    c.requires.known c.frame_out-frame.result c.frame_out-frame.ensures.out c.frame_back.ensures.back
    c.hands_keep_the_hash.ensures

pub returns-clause-kept : goal.returns-clause-kept
returns-clause-kept c = λ index h. figures_become c.args.pass.now c.frame_out-frame.new.pass
    c.frame_back.new.pass c.args.block index c.args.figures.now h c.requires.known
    c.frame_out-frame.result c.frame_out-frame.ensures.out c.frame_back.ensures.back
    c.settle.new.pass c.settle.ensures.did

pub returns-clause-own : goal.returns-clause-own
returns-clause-own c = (
  passes_both c.args.pass.now c.frame_out-frame.new.pass c.settle.new.pass c.frame_out-frame.ensures.own.0
      (passes_both c.frame_out-frame.new.pass c.frame_back.new.pass c.settle.new.pass c.frame_back.ensures.own.0
      c.settle.ensures.own.0),
  c.settle.ensures.own.1,
)

pub frame_out-frame-requires-clause-held : goal.frame_out-frame-requires-clause-held
frame_out-frame-requires-clause-held c = let leaf = c.requires.teach.1.leaf in (
  leaf.frame,
  leaf.frame,
  frame_has c.args.pass.now c.requires.known c.args.block leaf.frame leaf.knows,
)

pub frame_back-requires-clause-own : goal.frame_back-requires-clause-own
frame_back-requires-clause-own c = (c.requires.own.0, c.frame_out-frame.ensures.own.1)

pub settle-requires-clause-own : goal.settle-requires-clause-own
settle-requires-clause-own c = c.frame_back.ensures.own.1

pub returns-clause-fits : goal.returns-clause-fits
returns-clause-fits c = c.settle.ensures.fits
