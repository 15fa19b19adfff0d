use Rattle.std.proofs.Common.{arith, ap, sym, ◌∙◌}
use Rattle.latch_law.specs.declared.knows.Terms.{Terms}
use Rattle.index_law.specs.Shape.{Shape}
use Rattle.index_engine.proofs.LearnerLemmas.{has_unique}
use Rattle.index_engine.proofs.engine.Engine.seek.Goals as goal

pub seek_row-requires-clause-index : goal.seek_row-requires-clause-index
seek_row-requires-clause-index g c = let engine = c.args.self.now in
    let below = c.requires.index in let lists = engine.forest.lists in omega (arith, below, lists)

pub seek_row-requires-clause-unique : goal.seek_row-requires-clause-unique
seek_row-requires-clause-unique g c = let engine = c.args.self.now in
    let below = c.requires.index in let lists = engine.forest.lists in
    has_unique engine.learner engine.space.terms.shape c.args.index engine.learns
    (omega (arith, below, lists))

pub invariant_of-pass : goal.invariant_of-pass
invariant_of-pass g c = let pass = c.args.pass.now in let done = c.seek_row.ensures in
    let numbers = done.told.tells.once.adds.numbers in let tried = done.tried in record {
      nothing = done.nothing;
      most = pass.most ∙ ap (λ (t : Terms Shape). t.max_changes) (sym numbers.terms);
      low = tried.low ∙ (pass.low ∙ sym numbers.low);
      end = tried.end ∙ (pass.end ∙ sym numbers.end);
    }
