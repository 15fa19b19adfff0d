use Rattle.std.proofs.Common.{◌<◌, length, ap, arith}
use Rattle.list_facts.proofs.Places.{there}
use Rattle.latch_law.specs.declared.knows.Terms.{Terms}
use Rattle.latch_space.specs.Passes.{view}
use Rattle.latch_space.proofs.Pointwise.{none_known}
use Rattle.index_law.specs.Shape.{Shape}
use Rattle.index_engine.proofs.deleting.merge.Goals as goal

pub returns-clause-seen : goal.returns-clause-seen
returns-clause-seen g c = let call = c.args.call.now in let seen = (view c.args.pass.now).seen in
    let counted = c.fits.ensures.fits.counted.4 in
    let terms = ap (λ (t : Terms Shape). t.indexes) c.requires.own.1 in
    let lists = call.forest.lists in let below = call.there in
    let within : call.index < length seen = omega (arith, counted, terms, lists, below) in
    there seen call.index within

pub shrink-requires-clause-known : goal.shrink-requires-clause-known
shrink-requires-clause-known g c = none_known c.args.pass.now c.requires.nothing
