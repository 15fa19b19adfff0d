use Rattle.std.proofs.Common.{◌≡◌, ◌<◌, ap, ◌∙◌, sym, subst, length, refl, List}
use mathlib.Core.Option.{some}
use lib.ListN.{get_elem?}
use Rattle.learning.specs.declared.info.Info.{Info}
use Rattle.learning.specs.Learning.{learn}
use Rattle.learning.specs.Word.{FitsWord, word_of}
use Rattle.learning.proofs.LearningLemmas.{learn_bounded}
use Rattle.search_info.specs.declared.knows.Opening.{Opening}
use Rattle.search_info.specs.declared.knows.Entry.{Entry}
use Rattle.search_info.specs.History.{Start, known_after}
use Rattle.list_facts.proofs.Places.{inside, one_value}
use Rattle.search_info.proofs.CallLemmas.{overtakes, unpacked_word}
use Rattle.search_info.proofs.learner.Learner.exchange.Goals as goal

pub pack-new-requires : goal.pack-new-requires
pack-new-requires c = let r = c.requires.read in
    subst FitsWord (sym c.learn-after.ensures) (learn_bounded r.start.1 c.args.before.now c.args.event.now r.begins.some r.begins.few r.bounded r.fair r.room).fits

pub exchange_at-found-requires-clause-index : goal.exchange_at-found-requires-clause-index
exchange_at-found-requires-clause-index c = let r = c.requires.read in subst (λ (o : Opening). c.args.index < length o.starts) c.requires.own.1 (inside _ _ _ r.is_start)

pub returns-else-found-word-clause-did : goal.returns-else-found-word-clause-did
returns-else-found-word-clause-did c = let r = c.requires.read in let v = c.args.pass.now.seat.me.0 in let before = c.args.before.now in
    let late = λ (s : Start) (xs : List Entry) (at : get_elem? v.opening.starts c.args.index ≡ some s) (seen : get_elem? v.seen c.args.index ≡ some xs).
    overtakes v c.exchange_at-found.new.seat.me.0 c.args.index s xs c.args.event.now before c.unpack.result c.exchange_at-found.result at
    (r.before_is ∙ (λ k. known_after (one_value v.opening.starts c.args.index r.start s r.is_start at k) (one_value v.seen c.args.index r.list xs r.is_seen seen k)))
    (c.exchange_at-found.ensures.missed s xs at seen c.if-found-word.false) c.unpack.ensures in
    let there = unpacked_word v c.exchange_at-found.new.seat.me.0 c.args.index r.start r.list c.args.event.now c.unpack.result c.exchange_at-found.result r.is_start
    (c.exchange_at-found.ensures.missed r.start r.list r.is_start r.is_seen c.if-found-word.false) c.unpack.ensures in
    (refl, (λ e. c.if-found-word.false (sym there ∙ (ap word_of (sym e) ∙ (ap word_of r.before_is ∙ sym r.word_is)))), late)

pub exchange_at-found-requires-clause-rule : goal.exchange_at-found-requires-clause-rule
exchange_at-found-requires-clause-rule c = let r = c.requires.read in record {
  start = r.start;
  is_start = r.is_start;
  list = r.list;
  is_seen = r.is_seen;
  old_is = r.word_is;
  fair = r.fair;
  new_is = c.pack-new.ensures ∙ ap word_of (c.learn-after.ensures ∙ ap (λ (info : Info). learn info c.args.event.now) r.before_is);
  room = subst (λ (info : Info). info.events < 4294967295) r.before_is r.room;
}

pub returns-then-found-word-clause-did : goal.returns-then-found-word-clause-did
returns-then-found-word-clause-did c = (refl, c.learn-after.ensures, c.should_build-build.ensures, λ xs seen. c.exchange_at-found.ensures.hit xs seen c.if-found-word.true)
