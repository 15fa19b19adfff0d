use Rattle.std.proofs.Common.{sym, ap, ◌∙◌, map, [], ◌∷◌, length, arith}
use Rattle.std.proofs.lemmas.List.{map-append}
use Rattle.key_tuple.specs.KeyPlace.{cut_of}
use Rattle.map_history.specs.Pairs.{pair_of, pair_by}
use Rattle.map_history.specs.Reply.{last_before}
use Rattle.map_history.proofs.AnswerLemmas.{last_before-in, last_before-out}
use Rattle.std.proofs.lemmas.List.{length_push}
use Rattle.map_history.proofs.answers.last_short.Goals as goal

pub returns-then-not-is_past : goal.returns-then-not-is_past
returns-then-not-is_past c =
    let cut = cut_of c.args.mode c.args.tuple.now.fields in
    let rest = map pair_of c.next_back.new.self in
    let row = pair_by (c.in-Some.key, c.in-Some.value) in
    let left = ap (map pair_of) c.in-Some.ensures.steps ∙ map-append pair_of c.next_back.new.self ((c.in-Some.key.now, c.in-Some.value.now) ∷ []) in
    sym (c.loop-key.invariant ∙ ap (last_before cut) left ∙ last_before-out cut rest row (sym c.is_past.ensures ∙ c.if-not-is_past.true))

pub loop-key-preserved : goal.loop-key-preserved
loop-key-preserved c =
    let cut = cut_of c.args.mode c.args.tuple.now.fields in
    let rest = map pair_of c.next_back.new.self in
    let row = pair_by (c.in-Some.key, c.in-Some.value) in
    let left = ap (map pair_of) c.in-Some.ensures.steps ∙ map-append pair_of c.next_back.new.self ((c.in-Some.key.now, c.in-Some.value.now) ∷ []) in
    c.loop-key.invariant ∙ ap (last_before cut) left ∙ last_before-in cut rest row (sym c.is_past.ensures ∙ c.if-not-is_past.false)

pub loop-key-smaller : goal.loop-key-smaller
loop-key-smaller c =
    let count = ap length c.in-Some.ensures.steps ∙ length_push c.next_back.new.self (c.in-Some.key.now, c.in-Some.value.now) in
    omega (arith, count)
