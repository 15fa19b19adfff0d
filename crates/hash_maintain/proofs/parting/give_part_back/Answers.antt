use Rattle.std.proofs.Common.{sym, subst}
use Rattle.latch_law.specs.declared.knows.Holding.{Holding}
use Rattle.latch_law.specs.Rule.{Holds}
use Rattle.latch_law.specs.Views.{holding}
use Rattle.latch_space.specs.Has.{DidRelease}
use Rattle.latch_space.specs.Passes.{view, Shows}
use Rattle.forest_law.specs.declared.objects.Object.{Object}
use Rattle.forest_law.specs.declared.objects.Object.TheVariants as object
use Rattle.hash_maintain.proofs.PartLemmas.{gives_part, may_release_part}
use Rattle.hash_maintain.proofs.parting.give_part_back.Goals as goal

pub release-requires-clause-known : goal.release-requires-clause-known
release-requires-clause-known c = let p = c.args.pass.now in let h = c.requires.held in
    subst (λ k. (x : Holding Object) × Holds (view p) k x × Shows p k x.known)
    (sym c.part_number-number.ensures)
    (holding h.1.held.0 (object.Part h.0), h.1.held.1, h.1.value)

pub release-requires-clause-rule : goal.release-requires-clause-rule
release-requires-clause-rule c = let h = c.requires.held in
    may_release_part c.args.pass.now c.args.part c.part_number-number.result h.0
    c.part_number-number.ensures h.1

pub returns-clause-gave : goal.returns-clause-gave
returns-clause-gave c = let h = c.requires.held in
    gives_part c.args.pass.now c.release.new.pass c.args.part h.0 h.1
    (subst (λ k. DidRelease c.args.pass.now k c.release.new.pass) c.part_number-number.ensures
    c.release.ensures.did)
