use Rattle.std.proofs.Common.{refl, ap, ◌∙◌}
use Rattle.latch_space.specs.Passes.{view}
use Rattle.search_info.specs.declared.outcome.Learn.TheVariants.{Learnt}
use Rattle.leaf_search.proofs.LessonLemmas.{to_teach, teaches_no, teaches_raced, teaches_worn, teaches_hashed, figures_same}
use Rattle.leaf_search.proofs.lesson.learn_leaf.Goals as goal

pub hash_leaf-requires-clause-teach : goal.hash_leaf-requires-clause-teach
hash_leaf-requires-clause-teach g c = to_teach (view c.args.pass.now) c.args.block c.args.index
    c.count_descent-learnt.result.1 c.requires.leaf (c.count_descent-learnt.ensures.suits
    c.requires.leaf)

pub keep_figures-requires-clause-teach : goal.keep_figures-requires-clause-teach
keep_figures-requires-clause-teach g c = (
  c.args.index,
  to_teach (view c.args.pass.now) c.args.block c.args.index c.count_descent-learnt.result.1
      c.requires.leaf (c.count_descent-learnt.ensures.suits c.requires.leaf),
)

pub returns-in-Learnt-default-default-true-clause-taught : goal.returns-in-Learnt-default-default-true-clause-taught
returns-in-Learnt-default-default-true-clause-taught g c = let p = c.args.pass.now in
    let h = c.requires.leaf in let count = c.count_descent-learnt in
    let arm = c.in-Learnt-default-default-true in
    teaches_hashed p c.hash_leaf.new.pass c.args.learn.now.seat.me.0 count.new.learn.seat.me.0
    c.args.index c.args.block c.args.figures.now count.result.0 count.result.1 h
    (count.ensures.counted h) c.hash_leaf.result arm.before arm.after
    (arm.is ∙ ap (Learnt arm.before arm.after) arm.build-test)
    (c.hash_leaf.ensures.hashed (to_teach (view p) c.args.block c.args.index count.result.1 h
    (count.ensures.suits h)))

pub returns-in-Learnt-default-default-false-clause-taught : goal.returns-in-Learnt-default-default-false-clause-taught
returns-in-Learnt-default-default-false-clause-taught g c = let p = c.args.pass.now in
    let h = c.requires.leaf in let count = c.count_descent-learnt in
    let arm = c.in-Learnt-default-default-false in
    teaches_no p c.keep_figures.new.pass c.args.learn.now.seat.me.0 count.new.learn.seat.me.0
    c.args.index c.args.block c.args.figures.now count.result.0 count.result.1 h
    (count.ensures.counted h) arm.before arm.after
    (arm.is ∙ ap (Learnt arm.before arm.after) arm.build-test)
    (c.keep_figures.ensures.kept c.args.index (to_teach (view p) c.args.block c.args.index
    count.result.1 h (count.ensures.suits h)))

pub returns-in-Raced-clause-taught : goal.returns-in-Raced-clause-taught
returns-in-Raced-clause-taught g c = let p = c.args.pass.now in
    let h = c.requires.leaf in let count = c.count_descent-learnt in
    teaches_raced p p c.args.learn.now.seat.me.0 count.new.learn.seat.me.0 c.args.index
    c.args.block c.args.figures.now count.result.0 count.result.1 h (count.ensures.counted h)
    c.in-Raced.read c.in-Raced.found c.in-Raced.is
    (figures_same p c.args.block c.args.index h c.requires.known count.result.1)

pub returns-in-Worn-clause-taught : goal.returns-in-Worn-clause-taught
returns-in-Worn-clause-taught g c = let p = c.args.pass.now in
    let h = c.requires.leaf in let count = c.count_descent-learnt in
    teaches_worn p p c.args.learn.now.seat.me.0 count.new.learn.seat.me.0 c.args.index
    c.args.block c.args.figures.now count.result.0 count.result.1 h (count.ensures.counted h)
    c.in-Worn.is (figures_same p c.args.block c.args.index h c.requires.known count.result.1)

pub returns-in-Learnt-default-default-true-clause-own : goal.returns-in-Learnt-default-default-true-clause-own
returns-in-Learnt-default-default-true-clause-own g c = c.hash_leaf.ensures.own

pub returns-in-Learnt-default-default-true-clause-learner : goal.returns-in-Learnt-default-default-true-clause-learner
returns-in-Learnt-default-default-true-clause-learner g c = c.count_descent-learnt.ensures.learner

pub returns-in-Learnt-default-default-true-clause-fits : goal.returns-in-Learnt-default-default-true-clause-fits
returns-in-Learnt-default-default-true-clause-fits g c = c.hash_leaf.ensures.fits

pub returns-in-Learnt-default-default-false-clause-own : goal.returns-in-Learnt-default-default-false-clause-own
returns-in-Learnt-default-default-false-clause-own g c = c.keep_figures.ensures.own

pub returns-in-Learnt-default-default-false-clause-learner : goal.returns-in-Learnt-default-default-false-clause-learner
returns-in-Learnt-default-default-false-clause-learner g c = c.count_descent-learnt.ensures.learner

pub returns-in-Learnt-default-default-false-clause-fits : goal.returns-in-Learnt-default-default-false-clause-fits
returns-in-Learnt-default-default-false-clause-fits g c = c.keep_figures.ensures.fits

pub returns-in-Raced-clause-own : goal.returns-in-Raced-clause-own
returns-in-Raced-clause-own g c = ((refl, refl), c.requires.own.1)

pub returns-in-Raced-clause-learner : goal.returns-in-Raced-clause-learner
returns-in-Raced-clause-learner g c = c.count_descent-learnt.ensures.learner

pub returns-in-Raced-clause-fits : goal.returns-in-Raced-clause-fits
returns-in-Raced-clause-fits g c = c.fits.ensures

pub returns-in-Worn-clause-own : goal.returns-in-Worn-clause-own
returns-in-Worn-clause-own g c = ((refl, refl), c.requires.own.1)

pub returns-in-Worn-clause-learner : goal.returns-in-Worn-clause-learner
returns-in-Worn-clause-learner g c = c.count_descent-learnt.ensures.learner

pub returns-in-Worn-clause-fits : goal.returns-in-Worn-clause-fits
returns-in-Worn-clause-fits g c = c.fits.ensures
