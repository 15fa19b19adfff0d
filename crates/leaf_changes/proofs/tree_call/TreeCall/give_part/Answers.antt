use Rattle.std.proofs.Common.{subst, Option, ℕ, sym}
use Rattle.latch_space.specs.Passes.{view}
use Rattle.buffer_pool.specs.Parts.{KnowsPartIf}
use Rattle.buffer_pool.proofs.PartLemmas.{part_has}
use Rattle.leaf_changes.specs.Hashed.{GivesPartOf}
use Rattle.leaf_changes.proofs.tree_call.TreeCall.give_part.Goals as goal

pub give_part_back-requires-clause-there : goal.give_part_back-requires-clause-there
give_part_back-requires-clause-there g c =
    (subst (KnowsPartIf (view c.args.pass.now)) c.in-Some.is c.requires.held.partition).0

pub give_part_back-requires-clause-held : goal.give_part_back-requires-clause-held
give_part_back-requires-clause-held g c =
    let knows = subst (KnowsPartIf (view c.args.pass.now)) c.in-Some.is c.requires.held.partition in
    (knows.1, part_has c.args.pass.now c.in-Some.part knows.1 c.requires.held.known knows.2)

pub returns-in-Some-clause-gave : goal.returns-in-Some-clause-gave
returns-in-Some-clause-gave g c =
    subst (λ (o : Option ℕ). GivesPartOf c.args.pass.now o c.give_part_back.new.pass)
    (sym c.in-Some.is) c.give_part_back.ensures.gave
