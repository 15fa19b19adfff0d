-- hash_maintain/proofs/parting/try_part/Answers.antt
use Rattle.std.proofs.Common.{sym, subst}
use Rattle.latch_space.specs.Passes.{Lacks}
use Rattle.latch_space.specs.Takes.{TellsTake}
use Rattle.forest_law.specs.Law.{IsLawful}
use Rattle.index_law.specs.Rightness.{IsRight}
use Rattle.forest_law.specs.References.{IsReference}
use Rattle.hash_maintain.proofs.PartLemmas.{tells_part}
use Rattle.hash_maintain.proofs.parting.try_part.Goals as goal

pub try_take-requires-clause-lacks : goal.try_take-requires-clause-lacks
try_take-requires-clause-lacks c =
    subst (Lacks c.args.pass.now) (sym c.part_number-number.ensures) c.requires.lacks

pub returns-clause-did : goal.returns-clause-did
returns-clause-did c =
    tells_part c.args.pass.now c.try_take.new.pass c.args.part c.try_take.result c.requires.there
    c.requires.lacks
    (subst
    (λ k. TellsTake IsLawful IsRight IsReference c.args.pass.now k c.try_take.result
    c.try_take.new.pass) c.part_number-number.ensures c.try_take.ensures.did)
