use Rattle.std.proofs.Common.{refl, subst, ◌≡◌, IfSome, IfOk, IsErr, Result, Ok, Err}
use Rattle.list_facts.proofs.Outcomes.{when_err}
use Rattle.map_history.specs.Told.{columns_told}
use Rattle.map_history.specs.declared.reply.Told.{Told}
use Rattle.latch_space.specs.Passes.{view}
use Rattle.call_law.proofs.TraceLemmas.{quiet_both}
use Rattle.buffer_pool.proofs.AgainLemmas.{passes_both}
use Rattle.engine_law.specs.Says.{columns_by}
use Rattle.index_engine.specs.Writes.{write_asked, TriesWrite}
use Rattle.index_engine.proofs.TryLemmas.{quiet_yet, quiet_then_again, way_tells, way_quiet, way_unanswered}
use Rattle.index_engine.proofs.writing.write_again.Goals as goal

-- what is so of each success is so of a failure
when_no_ok : {T E : Type 0} (r : Result T E) (P : T → Type 0) → IsErr r → IfOk r P
when_no_ok (Err e) P failed = tt
when_no_ok (Ok x) P failed = absurd cc

pub loop-init : goal.loop-init
loop-init g c = let call = c.args.call.now in record {
  own = ((refl, refl), c.requires.own);
  nothing = c.requires.nothing;
  quiet = quiet_yet (view c.args.pass.now) call.index;
}

pub returns-in_err-told-clause-err : goal.returns-in_err-told-clause-err
returns-in_err-told-clause-err g c = let call = c.args.call.now in let key = call.key.now.tuple in
    let value = c.args.value.now in let p = c.loop.pass in let q = c.try_write.new.pass in
    when_err c.from_residual.result
    (quiet_both (view c.args.pass.now) (view p) (view q) call.index c.loop.invariant.quiet
    (way_unanswered p c.hold_leaf-leaf.new.pass q call.index key value
    (write_asked c.args.write key value) c.hold_leaf-leaf.result c.hold_leaf-leaf.ensures.went
    c.in_err-told.ensures.err))

pub returns-in-Some-2-clause-ok : goal.returns-in-Some-2-clause-ok
returns-in-Some-2-clause-ok g c = let call = c.args.call.now in let key = call.key.now.tuple in
    let value = c.args.value.now in let p = c.loop.pass in let q = c.try_write.new.pass in
    let ask = write_asked c.args.write key value in
    quiet_then_again (view c.args.pass.now) (view p) (view q) call.index key ask c.in-Some-2.told
    c.loop.invariant.quiet
    (way_tells p c.hold_leaf-leaf.new.pass q call.index key value ask c.hold_leaf-leaf.result
    c.hold_leaf-leaf.ensures.went c.in-Some-2.told
    (subst (λ o. TriesWrite c.hold_leaf-leaf.new.pass c.hold_leaf-leaf.result.block call.index key value ask o q)
    c.in-Some-2.is c.in_ok-told.ensures.ok))

pub loop-preserved : goal.loop-preserved
loop-preserved g c = let call = c.args.call.now in let key = call.key.now.tuple in
    let value = c.args.value.now in let p = c.loop.pass in let q = c.try_write.new.pass in
    let ask = write_asked c.args.write key value in record {
      own = (
        passes_both c.args.pass.now p q c.loop.invariant.own.0
            (passes_both p c.hold_leaf-leaf.new.pass q c.hold_leaf-leaf.ensures.own.0
            c.try_write.ensures.own.0),
        c.try_write.ensures.own.1,
      );
      nothing = c.try_write.ensures.nothing;
      quiet = quiet_both (view c.args.pass.now) (view p) (view q) call.index
          c.loop.invariant.quiet
          (way_quiet p c.hold_leaf-leaf.new.pass q call.index key value ask c.hold_leaf-leaf.result
          c.hold_leaf-leaf.ensures.went
          (subst (λ o. TriesWrite c.hold_leaf-leaf.new.pass c.hold_leaf-leaf.result.block call.index key value
          ask o q) c.in_default.is c.in_ok-told.ensures.ok));
    }

pub returns-in_err-told-clause-own : goal.returns-in_err-told-clause-own
returns-in_err-told-clause-own g c = let p = c.loop.pass in let q = c.try_write.new.pass in (
  passes_both c.args.pass.now p q c.loop.invariant.own.0 (passes_both p c.hold_leaf-leaf.new.pass q
      c.hold_leaf-leaf.ensures.own.0 c.try_write.ensures.own.0),
  c.try_write.ensures.own.1,
)

pub returns-in-Some-2-clause-own : goal.returns-in-Some-2-clause-own
returns-in-Some-2-clause-own g c = let p = c.loop.pass in let q = c.try_write.new.pass in (
  passes_both c.args.pass.now p q c.loop.invariant.own.0 (passes_both p c.hold_leaf-leaf.new.pass q
      c.hold_leaf-leaf.ensures.own.0 c.try_write.ensures.own.0),
  c.try_write.ensures.own.1,
)

pub returns-in-Some-2-clause-nothing : goal.returns-in-Some-2-clause-nothing
returns-in-Some-2-clause-nothing g c = c.try_write.ensures.nothing

pub returns-in-Some-2-clause-columns : goal.returns-in-Some-2-clause-columns
returns-in-Some-2-clause-columns g c = subst
    (λ o. IfSome o (λ (t : Told). columns_told t ≡ columns_by c.args.call.now.found))
    c.in-Some-2.is c.in_ok-told.ensures.columns

pub returns-in-Some-2-clause-err : goal.returns-in-Some-2-clause-err
returns-in-Some-2-clause-err g c = tt

pub returns-in_err-told-clause-nothing : goal.returns-in_err-told-clause-nothing
returns-in_err-told-clause-nothing g c = c.try_write.ensures.nothing

pub try_write-requires-clause-most : goal.try_write-requires-clause-most
try_write-requires-clause-most g c = c.requires.most

pub hold_leaf-leaf-requires-clause-own : goal.hold_leaf-leaf-requires-clause-own
hold_leaf-leaf-requires-clause-own g c = c.loop.invariant.own.1

pub try_write-requires-clause-own : goal.try_write-requires-clause-own
try_write-requires-clause-own g c = c.hold_leaf-leaf.ensures.own.1

pub try_write-requires-clause-alone : goal.try_write-requires-clause-alone
try_write-requires-clause-alone g c = c.hold_leaf-leaf.ensures.held

pub returns-in_err-told-clause-ok : goal.returns-in_err-told-clause-ok
returns-in_err-told-clause-ok g c = when_no_ok c.from_residual.result _ c.from_residual.ensures.0

pub returns-in_err-told-clause-columns : goal.returns-in_err-told-clause-columns
returns-in_err-told-clause-columns g c = when_no_ok c.from_residual.result _ c.from_residual.ensures.0
