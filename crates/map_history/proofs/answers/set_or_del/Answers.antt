use Rattle.std.proofs.Common.{sym, ap, ◌∙◌, is_some, cond}
use Rattle.map_history.specs.declared.reply.Reply.TheVariants as word
use Rattle.map_history.proofs.PairsLemmas.{lookup-rows}
use Rattle.map_history.proofs.answers.set_or_del.Goals as goal

pub returns-then-contains_key : goal.returns-then-contains_key
returns-then-contains_key c = sym (ap (λ b. cond b word.Ok word.Absent) (ap is_some (sym (lookup-rows c.args.key.now c.args.map.now.entries)) ∙ sym c.contains_key.ensures ∙ c.if-contains_key.true))

pub returns-else-contains_key : goal.returns-else-contains_key
returns-else-contains_key c = sym (ap (λ b. cond b word.Ok word.Absent) (ap is_some (sym (lookup-rows c.args.key.now c.args.map.now.entries)) ∙ sym c.contains_key.ensures ∙ c.if-contains_key.false))
