use Rattle.std.proofs.Common.{◌≡◌, ◌<◌, sym, ap, subst, ◌∙◌}
use Rattle.latch_law.specs.declared.knows.Terms.{Terms}
use Rattle.latch_space.specs.Passes.{view}
use Rattle.forest_law.specs.declared.objects.Frame.{Frame}
use Rattle.hash_law.specs.Blocks.{AskFew, part_for}
use Rattle.index_law.specs.Shape.{Shape}
use Rattle.forest_world.specs.Held.{shape_of_pass}
use Rattle.buffer_pool.proofs.AgainLemmas.{passes_both}
use Rattle.buffer_pool.proofs.PartLemmas.{part_below, took_free}
use Rattle.buffer_pool.proofs.CallLemmas.{frame_has}
use Rattle.leaf_search.specs.Builds.{HoldsToTeach}
use Rattle.leaf_search.proofs.BuiltLemmas.{ReadyToBuild, taken_known, taken_room, taken_counted, to_build, built_whole, built_follows, built_part, ends_build}
use Rattle.leaf_search.proofs.LessonLemmas.{leaf_is, leaf_paged}
use Rattle.leaf_search.proofs.building.build_leaf.Given as given
use Rattle.leaf_search.proofs.building.build_leaf.Goals as goal
use Rattle.leaf_search.proofs.building.build_leaf.Goals.{After-hold_part}

-- the partition of the index was taken, and the leaf is as it was
ready : (g : given.Over) (c : After-hold_part g)
    → HoldsToTeach (view c.args.pass.now) c.args.block c.args.index c.args.figures.now
    → ReadyToBuild c.args.pass.now c.hold_part.new.pass c.args.block c.args.index
    c.part_for-part.result c.args.figures.now
ready g c teach =
    let p = c.args.pass.now in let k = c.part_for-part.result in
    let same : c.args.space.now.terms.shape ≡ shape_of_pass p =
    ap (λ (t : Terms Shape). t.shape) (sym c.requires.own.1.1) in
    let below = part_below p c.shape.result.now c.args.space.now.terms.shape k c.args.index
    c.fits.ensures c.shape.ensures (sym same) c.part_for-part.ensures in
    record {
      fitted = c.fits.ensures;
      known = c.requires.known;
      none = c.requires.parts;
      k_is = c.part_for-part.ensures
          ∙ ap (λ (s : Shape). part_for s.parts c.args.index) (c.shape.ensures ∙ same);
      below = below;
      took = took_free p c.hold_part.new.pass k c.hold_part.result (c.requires.parts k below)
          c.hold_part.ensures.took c.hold_part.ensures.held;
      teach = teach;
      differs = c.requires.differs;
    }

pub count_leaf-need-requires-clause-page : goal.count_leaf-need-requires-clause-page
count_leaf-need-requires-clause-page g c = leaf_paged c.args.pass.now c.args.block c.args.index
    c.requires.known c.frame-leaf.result.now c.frame-leaf.ensures c.requires.teach.leaf

pub count_leaf-need-requires-clause-fields : goal.count_leaf-need-requires-clause-fields
count_leaf-need-requires-clause-fields g c = subst (λ (f : Frame). AskFew f.page c.args.figures.now.advice)
    (sym (leaf_is c.args.pass.now c.args.block c.args.index c.requires.known
    c.frame-leaf.result.now c.frame-leaf.ensures c.requires.teach.leaf))
    c.requires.teach.suits.advice

pub build_in_hand-answer-requires : goal.build_in_hand-answer-requires
unfolding ready
build_in_hand-answer-requires g c =
    let at = goal.at.build_in_hand-answer-requires g c in
    let ready = ready g at.After-hold_part c.requires.teach in
    record {
      own = (c.requires.own.0, c.hold_part.ensures.own.1);
      build = to_build ready;
      counted = taken_counted ready c.frame-leaf.result.now (leaf_is c.args.pass.now c.args.block
          c.args.index c.requires.known c.frame-leaf.result.now c.frame-leaf.ensures
          c.requires.teach.leaf) c.count_leaf-need.result c.count_leaf-need.ensures.counts;
      known = taken_known ready;
      room = taken_room ready c.requires.room;
    }

pub settle-requires : goal.settle-requires
settle-requires g c =
    let ready = ready g (goal.at.settle-requires g c).After-hold_part c.requires.teach in
    let built = c.build_in_hand-answer.ensures.built (to_build ready) in
    record {
      own = c.build_in_hand-answer.ensures.own.1;
      whole = built_whole ready built;
      rule = built_follows ready built c.upkeep_keeps_the_hash.ensures;
    }

pub give_part_back-requires-clause-held : goal.give_part_back-requires-clause-held
give_part_back-requires-clause-held g c =
    let at = goal.at.give_part_back-requires-clause-held g c in
    let ready = ready g at.After-hold_part c.requires.teach in
    let built = c.build_in_hand-answer.ensures.built (to_build ready) in
    built_part ready built c.settle.new.pass c.settle.ensures.did

pub returns-clause-built : goal.returns-clause-built
unfolding ready
returns-clause-built g c teach =
    let ready = ready g (goal.at.returns-clause-built g c).After-hold_part teach in
    let built = c.build_in_hand-answer.ensures.built (to_build ready) in
    ends_build ready built c.settle.new.pass c.settle.ensures.did c.give_part_back.new.pass
    c.give_part_back.ensures.gave

pub returns-clause-own : goal.returns-clause-own
returns-clause-own g c = (
  passes_both c.args.pass.now c.hold_part.new.pass c.give_part_back.new.pass c.hold_part.ensures.own.0
      (passes_both c.hold_part.new.pass c.build_in_hand-answer.new.pass c.give_part_back.new.pass c.build_in_hand-answer.ensures.own.0
      (passes_both c.build_in_hand-answer.new.pass c.settle.new.pass c.give_part_back.new.pass c.settle.ensures.own.0
      c.give_part_back.ensures.own.0)),
  c.give_part_back.ensures.own.1,
)

pub frame-leaf-requires-clause-held : goal.frame-leaf-requires-clause-held
frame-leaf-requires-clause-held g c = let leaf = c.requires.teach.leaf in (
  leaf.frame,
  leaf.frame,
  frame_has c.args.pass.now c.requires.known c.args.block leaf.frame leaf.knows,
)

pub hold_part-requires-clause-there : goal.hold_part-requires-clause-there
hold_part-requires-clause-there g c = part_below c.args.pass.now c.shape.result.now c.args.space.now.terms.shape
    c.part_for-part.result c.args.index c.fits.ensures c.shape.ensures
    (ap (λ (t : Terms Shape). t.shape) c.requires.own.1.1) c.part_for-part.ensures

pub give_part_back-requires-clause-there : goal.give_part_back-requires-clause-there
give_part_back-requires-clause-there g c =
    subst (λ (t : Terms Shape). c.part_for-part.result < t.shape.parts)
    (c.requires.own.1.1 ∙ sym c.settle.ensures.own.1.1) (part_below c.args.pass.now c.shape.result.now c.args.space.now.terms.shape
    c.part_for-part.result c.args.index c.fits.ensures c.shape.ensures
    (ap (λ (t : Terms Shape). t.shape) c.requires.own.1.1) c.part_for-part.ensures)
