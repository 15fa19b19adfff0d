use Rattle.std.proofs.Common.{None, inl, refl, subst, IfOk, IfErr}
use Rattle.index_law.specs.Meanings.{lent_row}
use Rattle.leaf_changes.specs.Changes.{RefusesHolding}
use Rattle.buffer_pool.proofs.AgainLemmas.{passes_both}
use Rattle.index_engine.specs.Leaving.{LeavesFull}
use Rattle.index_engine.specs.Writes.{write_asked}
use Rattle.leaf_changes.specs.Says.{AnswersHolding}
use Rattle.index_engine.proofs.HeldLemmas.{held_then, answers_then, looks_then, full_then}
use Rattle.index_engine.proofs.TryLemmas.{grown_ok, grown_err}
use Rattle.index_engine.proofs.writing.try_write.Goals as goal

pub let_both_go-requires-clause-held : goal.let_both_go-requires-clause-held
let_both_go-requires-clause-held g c = let call = c.args.call.now in
    let key = call.key.now.tuple in
    held_then c.args.pass.now c.hold_to_change-part.new.pass c.write_held-written.new.pass call.index
    key c.args.leaf.now c.hold_to_change-part.result c.hold_to_change-part.ensures.took
    c.args.value.now (write_asked c.args.write key c.args.value.now) (lent_row None)
    c.write_held-written.result c.write_held-written.ensures.ok c.write_held-written.ensures.err

pub returns-in-Ok-clause-ok : goal.returns-in-Ok-clause-ok
returns-in-Ok-clause-ok g c = let call = c.args.call.now in let key = call.key.now.tuple in
    let ask = write_asked c.args.write key c.args.value.now in let leaf = c.args.leaf.now in
    let q0 = c.hold_to_change-part.new.pass in let q1 = c.write_held-written.new.pass in
    let answers = subst
    (λ r. IfOk r (λ told. AnswersHolding q0 q1 leaf.block call.index ask told (lent_row None)))
    c.in-Ok.is c.write_held-written.ensures.ok in
    inl (answers_then c.args.pass.now q0 q1 call.index key leaf c.hold_to_change-part.result
    c.hold_to_change-part.ensures.took c.let_both_go.new.pass c.let_both_go.ensures.gave ask
    c.in-Ok.told (lent_row None) answers)

pub returns-in-NoMemory-clause-err : goal.returns-in-NoMemory-clause-err
returns-in-NoMemory-clause-err g c = let call = c.args.call.now in
    let key = call.key.now.tuple in let q0 = c.hold_to_change-part.new.pass in
    let q1 = c.write_held-written.new.pass in let leaf = c.args.leaf.now in
    let refuses = subst
    (λ r. IfErr r (λ e. RefusesHolding q0 q1 leaf.block call.index key c.args.value.now e))
    c.in-Err.is c.write_held-written.ensures.err in record {
      between = c.let_both_go.new.pass;
      left = looks_then c.args.pass.now q0 q1 call.index key leaf c.hold_to_change-part.result
          c.hold_to_change-part.ensures.took c.let_both_go.new.pass c.let_both_go.ensures.gave
          c.args.value.now c.in-Err.refusal refuses;
      after = inl refl;
    }

pub returns-in_default : goal.returns-in_default
returns-in_default g c = let call = c.args.call.now in let i = call.index in
    let key = call.key.now.tuple in let value = c.args.value.now in let p = c.args.pass.now in
    let q0 = c.hold_to_change-part.new.pass in let q1 = c.write_held-written.new.pass in
    let q = c.let_both_go.new.pass in let leaf = c.args.leaf.now in
    let part = c.hold_to_change-part.result in let took = c.hold_to_change-part.ensures.took in
    let gave = c.let_both_go.ensures.gave in
    let refuses = subst (λ r. IfErr r (λ e. RefusesHolding q0 q1 leaf.block i key value e))
    c.in-Err.is c.write_held-written.ensures.err in
    let full : LeavesFull p leaf.block i key value q = record {
      left = looks_then p q0 q1 i key leaf part took q gave value c.in-Err.refusal refuses;
      full = full_then p q0 q1 i key leaf part took q gave value c.in-Err.refusal refuses
          c.in_default.not-NoMemory;
    } in
    record {
      own = (
        passes_both p q0 c.grow.new.pass c.hold_to_change-part.ensures.own.0
            (passes_both q0 q1 c.grow.new.pass c.write_held-written.ensures.own.0
            (passes_both q1 q c.grow.new.pass c.let_both_go.ensures.own.0 c.grow.ensures.own.0)),
        c.grow.ensures.own.1,
      );
      nothing = c.grow.ensures.nothing;
      ok = grown_ok p q c.grow.new.pass leaf.block i key value (write_asked c.args.write key value)
          full c.grow.result c.grow.ensures.ok;
      columns = c.grow.ensures.columns;
      err = grown_err p q c.grow.new.pass leaf.block i key value (write_asked c.args.write key value)
          full c.grow.result c.grow.ensures.err;
    }

pub returns-in-Ok-clause-own : goal.returns-in-Ok-clause-own
returns-in-Ok-clause-own g c = (
  passes_both c.args.pass.now c.hold_to_change-part.new.pass c.let_both_go.new.pass
      c.hold_to_change-part.ensures.own.0 (passes_both c.hold_to_change-part.new.pass
      c.write_held-written.new.pass c.let_both_go.new.pass c.write_held-written.ensures.own.0
      c.let_both_go.ensures.own.0),
  c.let_both_go.ensures.own.1,
)

pub returns-in-NoMemory-clause-own : goal.returns-in-NoMemory-clause-own
returns-in-NoMemory-clause-own g c = (
  passes_both c.args.pass.now c.hold_to_change-part.new.pass c.let_both_go.new.pass
      c.hold_to_change-part.ensures.own.0 (passes_both c.hold_to_change-part.new.pass
      c.write_held-written.new.pass c.let_both_go.new.pass c.write_held-written.ensures.own.0
      c.let_both_go.ensures.own.0),
  c.let_both_go.ensures.own.1,
)
