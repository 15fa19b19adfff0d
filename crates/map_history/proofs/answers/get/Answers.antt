use Rattle.std.proofs.Common.{Some, sym, ap, ◌∙◌}
use Rattle.std.specs.Option.{option_copied}
use Rattle.map_history.specs.Reply.{Value, value_reply}
use Rattle.map_history.specs.Operation.{Get}
use Rattle.map_history.specs.Told.{said}
use Rattle.map_history.proofs.PairsLemmas.{lookup-rows}
use Rattle.map_history.proofs.answers.get.Goals as goal

pub returns-in-Some-clause-said : goal.returns-in-Some-clause-said
returns-in-Some-clause-said c =
    let found = ap (λ o. Some (value_reply o)) (sym (ap option_copied c.in-Some.is) ∙ c.get.ensures.value ∙ lookup-rows c.args.key.now c.args.map.now.entries) in
    ap (λ r. said (Get c.args.key.now.tuple) r c.found.new.out) c.found.ensures.reply ∙ ap (λ v. Some (Value v)) c.found.ensures.value ∙ found

pub returns-in-None-clause-said : goal.returns-in-None-clause-said
returns-in-None-clause-said c = ap (λ o. Some (value_reply o)) (sym (ap option_copied c.in-None.is) ∙ c.get.ensures.value ∙ lookup-rows c.args.key.now c.args.map.now.entries)
