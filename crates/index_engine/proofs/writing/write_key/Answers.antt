use Rattle.std.proofs.Common.{subst}
use Rattle.buffer_pool.proofs.AgainLemmas.{passes_both}
use Rattle.index_engine.specs.Writes.{write_asked, TriesWrite, MakesRoomThen}
use Rattle.index_engine.proofs.TryLemmas.{again_ok, again_err}
use Rattle.index_engine.proofs.writing.write_key.Goals as goal

pub returns-in-None-clause-ok : goal.returns-in-None-clause-ok
returns-in-None-clause-ok g c = let call = c.args.call.now in let key = call.key.now.tuple in
    let value = c.args.value.now in let ask = write_asked c.args.write key value in
    let p = c.args.pass.now in let q = c.try_write.new.pass in let b = c.args.leaf.now.block in
    let made : MakesRoomThen p b call.index key value q = subst
    (λ o. TriesWrite p b call.index key value ask o q) c.in-None.is c.in_ok-told.ensures.ok in
    again_ok p q c.write_again.new.pass b call.index key value ask made c.write_again.result
    c.write_again.ensures.ok

pub returns-in-None-clause-err : goal.returns-in-None-clause-err
returns-in-None-clause-err g c = let call = c.args.call.now in let key = call.key.now.tuple in
    let value = c.args.value.now in let ask = write_asked c.args.write key value in
    let p = c.args.pass.now in let q = c.try_write.new.pass in let b = c.args.leaf.now.block in
    let made : MakesRoomThen p b call.index key value q = subst
    (λ o. TriesWrite p b call.index key value ask o q) c.in-None.is c.in_ok-told.ensures.ok in
    again_err p q c.write_again.new.pass b call.index key value ask made c.write_again.result
    c.write_again.ensures.err

pub returns-in-None-clause-own : goal.returns-in-None-clause-own
returns-in-None-clause-own g c = (
  passes_both c.args.pass.now c.try_write.new.pass c.write_again.new.pass c.try_write.ensures.own.0
      c.write_again.ensures.own.0,
  c.write_again.ensures.own.1,
)

pub returns-in-Some-clause-ok : goal.returns-in-Some-clause-ok
returns-in-Some-clause-ok g c = let call = c.args.call.now in
    let key = call.key.now.tuple in let value = c.args.value.now in subst
    (λ o. TriesWrite c.args.pass.now c.args.leaf.now.block call.index key value
    (write_asked c.args.write key value) o c.try_write.new.pass) c.in-Some.is
    c.in_ok-told.ensures.ok
