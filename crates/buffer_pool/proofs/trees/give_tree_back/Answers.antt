use Rattle.std.proofs.Common.{sym, subst}
use Rattle.latch_law.specs.declared.knows.Holding.{Holding}
use Rattle.latch_law.specs.Rule.{Holds}
use Rattle.latch_law.specs.Views.{holding}
use Rattle.latch_space.specs.Has.{DidRelease}
use Rattle.latch_space.specs.Passes.{view, Shows}
use Rattle.forest_law.specs.declared.objects.Object.{Object}
use Rattle.forest_law.specs.declared.objects.Object.TheVariants as object
use Rattle.forest_law.specs.Numbers.{tree_id}
use Rattle.buffer_pool.proofs.SpaceLemmas.{may_release}
use Rattle.buffer_pool.proofs.TreeLemmas.{gives_tree}
use Rattle.buffer_pool.proofs.trees.give_tree_back.Goals as goal

pub release-requires-clause-known : goal.release-requires-clause-known
release-requires-clause-known c = let p = c.args.pass.now in let h = c.requires.held in
    subst (λ k. (x : Holding Object) × Holds (view p) k x × Shows p k x.known)
    (sym c.tree_number-number.ensures)
    (holding h.1.held.0 (object.Tree h.0), h.1.held.1, h.1.value)

pub release-requires-clause-rule : goal.release-requires-clause-rule
release-requires-clause-rule c = let h = c.requires.held in
    may_release (view c.args.pass.now) (tree_id c.args.index) c.tree_number-number.result
    (holding h.1.held.0 (object.Tree h.0)) c.tree_number-number.ensures h.1.held.1 tt

pub returns-clause-gave : goal.returns-clause-gave
returns-clause-gave c = let h = c.requires.held in
    gives_tree c.args.pass.now c.release.new.pass c.args.index h.0 c.requires.there h.1
    (subst (λ k. DidRelease c.args.pass.now k c.release.new.pass) c.tree_number-number.ensures
    c.release.ensures.did)
