use Rattle.std.proofs.Common.{None, sym, subst, IfOk}
use Rattle.map_history.specs.declared.reply.Told.{Told}
use Rattle.index_law.specs.Meanings.{lent_row}
use Rattle.leaf_changes.specs.Says.{AnswersHolding}
use Rattle.index_engine.specs.Writes.{write_asked}
use Rattle.index_engine.proofs.writing.write_held.Goals as goal

pub returns-in-Set-clause-ok : goal.returns-in-Set-clause-ok
returns-in-Set-clause-ok g c = subst (λ w. IfOk c.set_held.result (λ (told : Told).
    AnswersHolding c.args.pass.now c.set_held.new.pass c.args.leaf.now.block c.args.call.now.index
    (write_asked w c.args.call.now.key.now.tuple c.args.value.now) told (lent_row None)))
    (sym c.in-Set.is) c.set_held.ensures.ok

pub returns-in-Put-clause-ok : goal.returns-in-Put-clause-ok
returns-in-Put-clause-ok g c = subst (λ w. IfOk c.put_held.result (λ (told : Told).
    AnswersHolding c.args.pass.now c.put_held.new.pass c.args.leaf.now.block c.args.call.now.index
    (write_asked w c.args.call.now.key.now.tuple c.args.value.now) told (lent_row None)))
    (sym c.in-Put.is) c.put_held.ensures.ok
