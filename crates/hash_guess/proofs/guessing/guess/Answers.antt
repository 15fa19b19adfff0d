use Rattle.std.proofs.Common.{Bool, Some, None, refl, sym, subst, ◌∙◌}
use Rattle.search_info.specs.Passes.{knowledge}
use Rattle.hash_guess.specs.Guesses.{LearnsIf}
use Rattle.hash_guess.proofs.GuessLemmas.{misses_keep}
use Rattle.hash_guess.proofs.guessing.guess.Goals as goal

pub returns-in-Ok-clause-did : goal.returns-in-Ok-clause-did
returns-in-Ok-clause-did g c = record {
  info = c.recommend-info.result;
  hits = c.in-Ok.ensures.ok;
  learns = record {
    read = knowledge c.recommend-info.new.pass;
    recommends = c.recommend-info.ensures.did;
    tells = c.after_hit.ensures.did;
  };
}

pub returns-then-is_miss-clause-did : goal.returns-then-is_miss-clause-did
returns-then-is_miss-clause-did g c = let told = c.in-Err.ensures.err in
    let kept = misses_keep c.args.pass.now c.find_named-told.new.pass c.requires.known c.args.index
    c.args.mode (g.A.Fields.fields_of c.args.tuple.now) c.recommend-info.result c.in-Err.cause told
    in record {
      keeps = kept.got;
      as_taken = kept.as_taken;
      info = c.recommend-info.result;
      misses = told;
      learns = subst (λ (b : Bool). LearnsIf b (knowledge c.args.learn.now) c.args.index
          c.recommend-info.result (Some c.after_miss.result) (knowledge c.after_miss.new.pass))
          (sym c.if-is_miss.true ∙ c.is_miss.ensures) (
            c.after_miss.result,
            refl,
            record {
              read = knowledge c.recommend-info.new.pass;
              recommends = c.recommend-info.ensures.did;
              tells = c.after_miss.ensures.did;
            },
          );
    }

pub returns-else-is_miss-clause-did : goal.returns-else-is_miss-clause-did
returns-else-is_miss-clause-did g c = let told = c.in-Err.ensures.err in
    let kept = misses_keep c.args.pass.now c.find_named-told.new.pass c.requires.known c.args.index
    c.args.mode (g.A.Fields.fields_of c.args.tuple.now) c.recommend-info.result c.in-Err.cause told
    in record {
      keeps = kept.got;
      as_taken = kept.as_taken;
      info = c.recommend-info.result;
      misses = told;
      learns = subst (λ (b : Bool). LearnsIf b (knowledge c.args.learn.now) c.args.index
          c.recommend-info.result None (knowledge c.recommend-info.new.pass))
          (sym c.if-is_miss.false ∙ c.is_miss.ensures) (refl, c.recommend-info.ensures.did);
    }

pub after_hit-requires-clause-index : goal.after_hit-requires-clause-index
after_hit-requires-clause-index g c = c.requires.index

pub after_miss-requires-clause-index : goal.after_miss-requires-clause-index
after_miss-requires-clause-index g c = c.requires.index

pub returns-in-Ok-clause-learner : goal.returns-in-Ok-clause-learner
returns-in-Ok-clause-learner g c = let read = c.recommend-info.ensures.own.0 in
    let hit = c.after_hit.ensures.own in ((hit.0.0 ∙ read.0, hit.0.1 ∙ read.1), hit.1)

pub returns-then-is_miss-clause-learner : goal.returns-then-is_miss-clause-learner
returns-then-is_miss-clause-learner g c = let read = c.recommend-info.ensures.own.0 in
    let miss = c.after_miss.ensures.own in ((miss.0.0 ∙ read.0, miss.0.1 ∙ read.1), miss.1)
