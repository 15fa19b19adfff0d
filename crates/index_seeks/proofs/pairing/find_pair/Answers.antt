use Rattle.std.proofs.Common.{◌≤◌, length, arith, sym, subst}
use Rattle.latch_space.proofs.Pointwise.{none_known}
use Rattle.search_info.specs.Passes.{HasUnique, knowledge}
use Rattle.forest_law.specs.State.{fields_for}
use Rattle.forest_world.specs.Held.{shape_of_pass}
use Rattle.buffer_pool.proofs.SpaceLemmas.{objects_of}
use Rattle.buffer_pool.proofs.AgainLemmas.{passes_both}
use Rattle.leaf_search.specs.Downs.{figures_at}
use Rattle.index_seeks.proofs.SeekLearnLemmas.{held_pair, learnt_pair, pair_leaf, pair_figures, none_held, few_held}
use Rattle.index_seeks.proofs.StandLemmas.{went_only}
use Rattle.index_seeks.proofs.pairing.find_pair.Goals as goal

pub descend_pair-pair-requires-clause-frames : goal.descend_pair-pair-requires-clause-frames
descend_pair-pair-requires-clause-frames g c = let p = c.args.pass.now in
    (none_held p (objects_of c.args.space.now p c.requires.own.0 c.requires.own.1)
    c.requires.nothing).frames

pub descend_pair-pair-requires-clause-tables : goal.descend_pair-pair-requires-clause-tables
descend_pair-pair-requires-clause-tables g c = let p = c.args.pass.now in
    (none_held p (objects_of c.args.space.now p c.requires.own.0 c.requires.own.1)
    c.requires.nothing).tables

pub learn_leaf-note-requires-clause-unique : goal.learn_leaf-note-requires-clause-unique
learn_leaf-note-requires-clause-unique g c =
    subst (λ t. HasUnique c.args.learner.now c.args.index (fields_for t.shape c.args.index))
    (sym c.descend_pair-pair.ensures.own.1.1) c.requires.unique

pub learn_leaf-note-requires-clause-figures : goal.learn_leaf-note-requires-clause-figures
learn_leaf-note-requires-clause-figures g c = let p = c.args.pass.now in
    let q = c.descend_pair-pair.new.pass in let i = c.args.index in
    pair_figures p q i c.args.mode c.args.tuple.now.fields c.descend_pair-pair.result
    c.descend_pair-pair.ensures.went (fields_for (shape_of_pass q) i)
    c.is_within_limits.ensures.short
    (subst (λ t. length c.args.tuple.now.fields ≤ fields_for t.shape i)
    (sym c.descend_pair-pair.ensures.own.1.1) c.requires.fields)

pub learn_leaf-note-requires-clause-leaf : goal.learn_leaf-note-requires-clause-leaf
learn_leaf-note-requires-clause-leaf g c = pair_leaf c.args.pass.now c.descend_pair-pair.new.pass
    c.args.index c.args.mode c.args.tuple.now.fields c.descend_pair-pair.result
    c.descend_pair-pair.ensures.went

pub learn_leaf-note-requires-clause-known : goal.learn_leaf-note-requires-clause-known
learn_leaf-note-requires-clause-known g c = c.descend_pair-pair.ensures.went.silently.does.known

pub learn_leaf-note-requires-clause-tables : goal.learn_leaf-note-requires-clause-tables
learn_leaf-note-requires-clause-tables g c = let p = c.args.pass.now in
    let objects = objects_of c.args.space.now p c.requires.own.0 c.requires.own.1 in
    (went_only p c.descend_pair-pair.new.pass c.args.index c.args.mode c.args.tuple.now.fields
    c.descend_pair-pair.result c.descend_pair-pair.ensures.went
    (none_held p objects c.requires.nothing)).tables

pub learn_leaf-note-requires-clause-room : goal.learn_leaf-note-requires-clause-room
learn_leaf-note-requires-clause-room g c = let p = c.args.pass.now in
    let objects = objects_of c.args.space.now p c.requires.own.0 c.requires.own.1 in
    let pair = c.descend_pair-pair.result in
    let counted = (went_only p c.descend_pair-pair.new.pass c.args.index c.args.mode
    c.args.tuple.now.fields pair c.descend_pair-pair.ensures.went
    (none_held p objects c.requires.nothing)).count in
    let few = few_held pair in omega (arith, counted, few)

pub returns-clause-found : goal.returns-clause-found
returns-clause-found g c = record {
  between = c.descend_pair-pair.new.pass;
  went = c.descend_pair-pair.ensures.went;
  taught = c.learn_leaf-note.ensures.taught;
}

pub returns-clause-held : goal.returns-clause-held
returns-clause-held g c = let p = c.args.pass.now in let q = c.descend_pair-pair.new.pass in
    let objects = objects_of c.args.space.now p c.requires.own.0 c.requires.own.1 in
    let pair = c.descend_pair-pair.result in let went = c.descend_pair-pair.ensures.went in
    let i = c.args.index in let tuple = c.args.tuple.now.fields in
    learnt_pair q c.learn_leaf-note.new.pass (knowledge c.args.learn.now)
    (knowledge c.learn_leaf-note.new.learn) i pair (figures_at pair.leaf.spot)
    c.learn_leaf-note.result c.learn_leaf-note.ensures.taught c.args.mode tuple
    (held_pair p q i c.args.mode tuple pair went
    (went_only p q i c.args.mode tuple pair went (none_held p objects c.requires.nothing)))

pub descend_pair-pair-requires-clause-known : goal.descend_pair-pair-requires-clause-known
descend_pair-pair-requires-clause-known g c = none_known c.args.pass.now c.requires.nothing

pub returns-clause-own : goal.returns-clause-own
returns-clause-own g c = (
  passes_both c.args.pass.now c.descend_pair-pair.new.pass c.learn_leaf-note.new.pass c.descend_pair-pair.ensures.own.0 c.learn_leaf-note.ensures.own.0,
  c.learn_leaf-note.ensures.own.1,
)

pub returns-clause-learner : goal.returns-clause-learner
returns-clause-learner g c = c.learn_leaf-note.ensures.learner
