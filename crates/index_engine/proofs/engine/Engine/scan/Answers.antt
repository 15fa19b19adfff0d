use Rattle.std.proofs.Common.{arith}
use Rattle.index_engine.proofs.LearnerLemmas.{has_unique}
use Rattle.index_engine.proofs.engine.Engine.scan.Goals as goal

pub scan_rows-requires-clause-unique : goal.scan_rows-requires-clause-unique
scan_rows-requires-clause-unique g c = let engine = c.args.self.now in
    let below = c.requires.index in let lists = engine.forest.lists in
    has_unique engine.learner engine.space.terms.shape c.args.index engine.learns
    (omega (arith, below, lists))
