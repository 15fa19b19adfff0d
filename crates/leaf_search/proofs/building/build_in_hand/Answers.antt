use Rattle.buffer_pool.proofs.AgainLemmas.{passes_both}
use Rattle.buffer_pool.proofs.CallLemmas.{frame_has}
use Rattle.leaf_search.proofs.BuildLemmas.{out_tidy, out_leaf, out_few, out_counted, out_in_place, out_room, out_has_leaf, built_goes_back, built_in_hand}
use Rattle.leaf_search.proofs.building.build_in_hand.Goals as goal

pub build_frame-answer-requires-clause-tidy : goal.build_frame-answer-requires-clause-tidy
build_frame-answer-requires-clause-tidy g c = out_tidy c.args.pass.now c.frame_out-frame.new.pass c.args.block
    c.args.index c.args.figures.now c.requires.build c.requires.known c.fits.ensures
    c.frame_out-frame.result c.frame_out-frame.ensures.out

pub build_frame-answer-requires-clause-leaf : goal.build_frame-answer-requires-clause-leaf
build_frame-answer-requires-clause-leaf g c = out_leaf c.args.pass.now c.frame_out-frame.new.pass c.args.block
    c.args.index c.args.figures.now c.requires.build c.requires.known c.fits.ensures
    c.frame_out-frame.result c.frame_out-frame.ensures.out

pub build_frame-answer-requires-clause-fields : goal.build_frame-answer-requires-clause-fields
build_frame-answer-requires-clause-fields g c = out_few c.args.pass.now c.frame_out-frame.new.pass c.args.block
    c.args.index c.args.figures.now c.requires.build c.requires.known c.fits.ensures
    c.frame_out-frame.result c.frame_out-frame.ensures.out

pub build_frame-answer-requires-clause-need : goal.build_frame-answer-requires-clause-need
build_frame-answer-requires-clause-need g c = out_counted c.args.pass.now c.frame_out-frame.new.pass
    c.args.block c.args.need c.args.figures.now c.frame_out-frame.result c.requires.known
    c.frame_out-frame.ensures.out c.requires.counted

pub build_frame-answer-requires-clause-place : goal.build_frame-answer-requires-clause-place
build_frame-answer-requires-clause-place g c = out_in_place c.args.pass.now c.frame_out-frame.new.pass
    c.args.block c.args.index c.args.figures.now c.requires.build c.requires.known c.fits.ensures
    c.frame_out-frame.result c.frame_out-frame.ensures.out

pub build_frame-answer-requires-clause-room : goal.build_frame-answer-requires-clause-room
build_frame-answer-requires-clause-room g c = out_room c.args.pass.now c.frame_out-frame.new.pass
    c.args.block c.args.index c.args.figures.now c.requires.build c.requires.known c.fits.ensures
    c.frame_out-frame.result c.frame_out-frame.ensures.out c.requires.room

pub frame_back-requires-clause-out : goal.frame_back-requires-clause-out
frame_back-requires-clause-out g c = let p = c.args.pass.now in let q = c.frame_out-frame.new.pass in
    let h = c.requires.build in
    let leaf = out_has_leaf p q c.args.block c.args.index c.args.figures.now h c.requires.known
    c.fits.ensures c.frame_out-frame.result c.frame_out-frame.ensures.out in
    built_goes_back p q c.args.block c.args.index c.args.figures.now h c.requires.known c.fits.ensures
    c.frame_out-frame.result c.frame_out-frame.ensures.out c.build_frame-answer.new.pass
    c.build_frame-answer.result c.build_frame-answer.new.frame
    (c.build_frame-answer.ensures.frame h.differs c.args.index leaf)
    (c.build_frame-answer.ensures.builds h.differs c.args.index leaf)

pub returns-clause-built : goal.returns-clause-built
returns-clause-built g c = λ h. (let p = c.args.pass.now in let q = c.frame_out-frame.new.pass in
    let leaf = out_has_leaf p q c.args.block c.args.index c.args.figures.now h c.requires.known
    c.fits.ensures c.frame_out-frame.result c.frame_out-frame.ensures.out in
    built_in_hand p q c.args.block c.args.index c.args.figures.now h c.requires.known c.fits.ensures
    c.frame_out-frame.result c.frame_out-frame.ensures.out c.build_frame-answer.new.pass
    c.build_frame-answer.result c.build_frame-answer.new.frame
    (c.build_frame-answer.ensures.frame h.differs c.args.index leaf)
    (c.build_frame-answer.ensures.builds h.differs c.args.index leaf)
    c.frame_back.new.pass c.frame_back.ensures.back)

pub returns-clause-own : goal.returns-clause-own
returns-clause-own g c = (
  passes_both c.args.pass.now c.frame_out-frame.new.pass c.frame_back.new.pass c.frame_out-frame.ensures.own.0
      (passes_both c.frame_out-frame.new.pass c.build_frame-answer.new.pass c.frame_back.new.pass c.build_frame-answer.ensures.own.0
      c.frame_back.ensures.own.0),
  c.frame_back.ensures.own.1,
)

pub frame_out-frame-requires-clause-held : goal.frame_out-frame-requires-clause-held
frame_out-frame-requires-clause-held g c = let leaf = c.requires.build.teach.leaf in (
  leaf.frame,
  leaf.frame,
  frame_has c.args.pass.now c.requires.known c.args.block leaf.frame leaf.knows,
)
