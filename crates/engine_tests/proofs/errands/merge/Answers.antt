use Rattle.std.proofs.Common.{◌∙◌, ◌≡◌, length, sym, subst}
use Rattle.latch_law.specs.declared.knows.Terms.{Terms}
use Rattle.latch_space.proofs.Pointwise.{none_known}
use Rattle.index_law.specs.Shape.{Shape}
use Rattle.forest_law.specs.State.{fields_for}
use Rattle.engine_tests.proofs.errands.merge.Goals as goal

pub shrink-merged-requires-clause-fields : goal.shrink-merged-requires-clause-fields
shrink-merged-requires-clause-fields g c = let call = c.args.call.now in subst
    (λ (t : Terms Shape). length call.key.now.tuple ≡ fields_for t.shape call.index)
    (sym c.requires.own.1) call.fits

pub shrink-merged-requires-clause-known : goal.shrink-merged-requires-clause-known
shrink-merged-requires-clause-known g c = none_known c.args.pass.now c.requires.nothing

pub returns-clause-nothing : goal.returns-clause-nothing
returns-clause-nothing g c = c.shrink-merged.ensures.quiet.grows.count ∙ c.requires.nothing
