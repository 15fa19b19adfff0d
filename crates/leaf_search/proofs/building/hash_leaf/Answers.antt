use Rattle.std.proofs.Common.{◌≡◌, Some, rules}
use Rattle.latch_space.specs.Passes.{view}
use Rattle.leaf_search.proofs.HashLemmas.{unhelped_suits, ends_same, ends_built}
use Rattle.leaf_search.proofs.building.hash_leaf.Goals as goal

pub keep_figures-requires-clause-teach : goal.keep_figures-requires-clause-teach
keep_figures-requires-clause-teach g c = (
  c.args.index,
  unhelped_suits (view c.args.pass.now) c.args.block c.args.index c.args.figures.now
      c.requires.teach,
)

pub returns-then-eq-clause-hashed : goal.returns-then-eq-clause-hashed
returns-then-eq-clause-hashed g c = λ h. (let p = c.args.pass.now in
    let built : c.args.figures.now.built ≡ Some c.args.figures.now.advice = search rules in
    ends_same p c.keep_figures.new.pass c.args.block c.args.index c.args.figures.now h
    c.fits.ensures built (c.keep_figures.ensures.kept c.args.index
    (unhelped_suits (view p) c.args.block c.args.index c.args.figures.now h)))

pub build_leaf-requires-clause-teach : goal.build_leaf-requires-clause-teach
build_leaf-requires-clause-teach g c = unhelped_suits (view c.args.pass.now) c.args.block
    c.args.index c.args.figures.now c.requires.teach

pub returns-clause-hashed : goal.returns-clause-hashed
returns-clause-hashed g c = λ h. (let p = c.args.pass.now in
    ends_built p c.build_leaf.new.pass c.args.block c.args.index c.args.figures.now h
    c.build_leaf.result c.note_of_build.result c.note_of_build.ensures
    (c.build_leaf.ensures.built
    (unhelped_suits (view p) c.args.block c.args.index c.args.figures.now h)))
