use Rattle.std.proofs.Common.{inr, refl, subst}
use Rattle.key_tuple.specs.declared.mode.Mode.TheVariants.{Ge}
use Rattle.list_facts.proofs.Places.{inside}
use Rattle.latch_space.specs.Passes.{view}
use Rattle.search_info.specs.Passes.{knowledge}
use Rattle.hash_guess.specs.Guesses.{Guesses}
use Rattle.index_scans.proofs.FirstLemmas.{hit_held, hit_first}
use Rattle.index_scans.proofs.finding.find_first.Goals as goal

pub guess-requires-clause-index : goal.guess-requires-clause-index
guess-requires-clause-index g c = let unique = c.requires.unique in
    inside c.args.learner.now.settings.starts.items c.args.index unique.0 unique.1

pub leaf_is_in_order-requires-clause-leaf : goal.leaf_is_in_order-requires-clause-leaf
leaf_is_in_order-requires-clause-leaf g c =
    let hit = c.in-Hit in let i = c.args.index in let from = c.args.from.now.fields in
    let guessed = subst (λ z. Guesses c.args.pass.now (knowledge c.args.learn.now) i Ge from z
    c.guess.new.pass (knowledge c.guess.new.learn)) hit.is c.guess.ensures.did in
    hit_held (view c.guess.new.pass) i from hit.block hit.place hit.found guessed.hits.hit
    c.guess.ensures.fits

pub returns-in-Hit-clause-holds : goal.returns-in-Hit-clause-holds
returns-in-Hit-clause-holds g c =
    let hit = c.in-Hit in let i = c.args.index in let from = c.args.from.now.fields in
    let guessed = subst (λ z. Guesses c.args.pass.now (knowledge c.args.learn.now) i Ge from z
    c.guess.new.pass (knowledge c.guess.new.learn)) hit.is c.guess.ensures.did in
    hit_first (view c.guess.new.pass) i from hit.block hit.place hit.found guessed.hits.hit
    c.guess.ensures.fits
    (c.leaf_is_in_order.ensures
    (hit_held (view c.guess.new.pass) i from hit.block hit.place hit.found guessed.hits.hit
    c.guess.ensures.fits))

pub returns-in-Miss-clause-finds : goal.returns-in-Miss-clause-finds
returns-in-Miss-clause-finds g c =
    let miss = c.in-Miss in let i = c.args.index in let from = c.args.from.now.fields in
    inr (record {
      between = c.guess.new.pass;
      read = knowledge c.guess.new.learn;
      cause = miss.cause;
      learn = miss.learn;
      guess = subst (λ z. Guesses c.args.pass.now (knowledge c.args.learn.now) i Ge from z
          c.guess.new.pass (knowledge c.guess.new.learn)) miss.is c.guess.ensures.did;
      way = c.go_down-note.result.0;
      down = c.go_down-note.ensures.went;
      block_is = refl;
      place_is = refl;
      how_is = c.how_of.ensures;
    })
