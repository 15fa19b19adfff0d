use Rattle.std.proofs.Common.{◌∙◌, subst, arith, List}
use Rattle.search_info.specs.declared.knows.Entry.{Entry}
use Rattle.learning.specs.Word.{word_of}
use Rattle.search_info.specs.History.{known_after}
use Rattle.search_info.specs.Steps.{Hits}
use Rattle.list_facts.proofs.Places.{one_value}
use Rattle.search_info.proofs.StepLemmas.{exchanges, exchange_keeps}
use Rattle.search_info.proofs.learner.Learner.exchange_at.Goals as goal

pub compare_exchange-requires : goal.compare_exchange-requires
compare_exchange-requires g c = let r = c.requires.rule in let words = c.args.self.now.words in let i = c.requires.index in (
  c.requires.own.0,
  omega (arith, words, i),
  exchanges _ g.X.Asks.event _ _ c.args.seat.now.me c.args.index c.args.old c.args.new c.args.event.now r.start r.list c.requires.picked c.requires.live r.is_start r.is_seen r.old_is r.new_is r.fair r.room,
)

pub returns-clause-hit : goal.returns-clause-hit
returns-clause-hit g c = λ xs at hit. let r = c.requires.rule in let v = c.args.seat.now.me.0 in
    subst (λ (z : List Entry). Hits v c.args.index z c.args.event.now c.compare_exchange.new.seat.me.0) (one_value v.seen c.args.index r.list xs r.is_seen at)
    ((c.compare_exchange.ensures.2 c.args.event.now r.start r.list c.requires.picked r.is_start r.is_seen r.old_is).0 hit)

pub returns-clause-missed : goal.returns-clause-missed
returns-clause-missed g c = λ s xs at_start at missed. let r = c.requires.rule in let v = c.args.seat.now.me.0 in
    (c.compare_exchange.ensures.2 c.args.event.now s xs c.requires.picked at_start at
    (r.old_is ∙ (λ k. word_of (known_after (one_value v.opening.starts c.args.index r.start s r.is_start at_start k) (one_value v.seen c.args.index r.list xs r.is_seen at k))))).1 missed

pub returns-clause-same : goal.returns-clause-same
returns-clause-same g c = let r = c.requires.rule in let told = c.compare_exchange.ensures.2 c.args.event.now r.start r.list c.requires.picked r.is_start r.is_seen r.old_is in
    exchange_keeps c.args.seat.now.me.0 c.args.index r.start r.list c.args.event.now c.args.old c.compare_exchange.result c.compare_exchange.new.seat.me.0 told.0 told.1

pub returns-clause-slots : goal.returns-clause-slots
returns-clause-slots g c = let r = c.requires.rule in (c.compare_exchange.ensures.2 c.args.event.now r.start r.list c.requires.picked r.is_start r.is_seen r.old_is).2
