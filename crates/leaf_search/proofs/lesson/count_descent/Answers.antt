use Rattle.std.proofs.Common.{◌≤◌, subst}
use Rattle.key_tuple.specs.Fold.{asked_fields}
use Rattle.list_facts.proofs.Places.{inside}
use Rattle.buffer_pool.proofs.CallLemmas.{frame_has}
use Rattle.leaf_search.proofs.LessonLemmas.{one_unique, leaf_paged, leaf_few, counts_descent, counted_suits}
use Rattle.leaf_search.proofs.lesson.count_descent.Goals as goal

pub row_count-rows-requires : goal.row_count-rows-requires
row_count-rows-requires c = leaf_paged c.args.pass.now c.args.block c.args.index c.requires.known
    c.frame-leaf.result.now c.frame-leaf.ensures c.requires.leaf

pub unique-unique-requires : goal.unique-unique-requires
unique-unique-requires c = let unique = c.requires.unique in
    inside c.args.learner.now.settings.starts.items c.args.index unique.0 unique.1

pub after_descent-learnt-requires-clause-advice : goal.after_descent-learnt-requires-clause-advice
after_descent-learnt-requires-clause-advice c =
    subst (λ n. asked_fields c.frame-leaf.result.now.figures.advice ≤ n)
    (one_unique c.args.learner.now c.args.index _ _ c.requires.unique c.unique-unique.ensures)
    (leaf_few c.args.pass.now c.args.block c.args.index c.requires.known
    c.frame-leaf.result.now c.frame-leaf.ensures c.requires.leaf c.requires.fits)

pub returns-clause-counted : goal.returns-clause-counted
returns-clause-counted c = λ h. counts_descent c.args.pass.now c.args.block c.args.index
    c.requires.known c.frame-leaf.result.now c.frame-leaf.ensures h c.args.learner.now
    c.args.learn.now.seat.me.0 c.after_descent-learnt.new.pass.seat.me.0 c.unique-unique.result
    c.row_count-rows.result c.args.figures.now c.after_descent-learnt.result
    c.after_descent-learnt.new.block c.requires.unique c.unique-unique.ensures
    c.requires.learner.1 c.row_count-rows.ensures c.after_descent-learnt.ensures.did
    c.after_descent-learnt.ensures.block

pub returns-clause-suits : goal.returns-clause-suits
returns-clause-suits c = λ h. counted_suits c.args.pass.now c.args.block c.args.index
    c.requires.known c.frame-leaf.result.now c.frame-leaf.ensures h c.args.learner.now
    c.args.learn.now.seat.me.0 c.after_descent-learnt.new.pass.seat.me.0 c.unique-unique.result
    c.row_count-rows.result c.args.figures.now c.after_descent-learnt.result
    c.after_descent-learnt.new.block c.requires.unique c.unique-unique.ensures
    c.requires.learner.1 c.row_count-rows.ensures c.after_descent-learnt.ensures.did
    c.after_descent-learnt.ensures.block c.requires.fits

pub frame-leaf-requires-clause-held : goal.frame-leaf-requires-clause-held
frame-leaf-requires-clause-held c = let leaf = c.requires.leaf in (
  leaf.frame,
  leaf.frame,
  frame_has c.args.pass.now c.requires.known c.args.block leaf.frame leaf.knows,
)
