use Rattle.std.proofs.Common.{subst, ◌≡◌, IfSome, refl}
use Rattle.map_history.specs.Told.{columns_told}
use Rattle.map_history.specs.declared.reply.Told.{Told}
use Rattle.latch_space.specs.Passes.{view}
use Rattle.buffer_pool.proofs.AgainLemmas.{passes_both}
use Rattle.engine_law.specs.Says.{columns_by}
use Rattle.buffer_pool.specs.AsTaken.{NoException}
use Rattle.index_seeks.specs.SeekSteps.{TriesSeek}
use Rattle.index_seeks.proofs.SeekTryLemmas.{tries_vain, tries_way, vain_none, vain_both, vain_then_way}
use Rattle.index_seeks.proofs.seek_call.SeekCall.seek_again.Goals as goal

pub loop-init : goal.loop-init
loop-init g c = record {
  own = ((refl, refl), c.requires.own);
  nothing = c.requires.nothing;
  vain = vain_none NoException (view c.args.pass.now) c.args.self.now.index;
}

pub returns-in-Some-try_seek-clause-told : goal.returns-in-Some-try_seek-clause-told
returns-in-Some-try_seek-clause-told g c = let call = c.args.self.now in
    let v = view c.loop.pass in let v' = view c.try_seek.new.pass in
    let told = c.in-Some-try_seek.told in let out = c.try_seek.new.out in
    vain_then_way NoException (view c.args.pass.now) v v' call.index c.loop.invariant.vain call.mode
    call.tuple.now.fields told out
    (tries_way NoException v v' call.index call.mode call.tuple.now.fields told out
    (subst (λ o. TriesSeek NoException v v' call.index call.mode call.tuple.now.fields o out) c.in-Some-try_seek.is
    c.try_seek.ensures.tried))

pub loop-preserved : goal.loop-preserved
loop-preserved g c = let call = c.args.self.now in record {
  own = (
    passes_both c.args.pass.now c.loop.pass c.try_seek.new.pass c.loop.invariant.own.0
        c.try_seek.ensures.own.0,
    c.try_seek.ensures.own.1,
  );
  nothing = c.try_seek.ensures.nothing;
  vain = vain_both NoException (view c.args.pass.now) (view c.loop.pass) (view c.try_seek.new.pass) call.index
      c.loop.invariant.vain
      (tries_vain NoException (view c.loop.pass) (view c.try_seek.new.pass) call.index call.mode
      call.tuple.now.fields c.try_seek.new.out
      (subst
      (λ o. TriesSeek NoException (view c.loop.pass) (view c.try_seek.new.pass) call.index call.mode
      call.tuple.now.fields o c.try_seek.new.out) c.in_default.is c.try_seek.ensures.tried));
}

pub returns-in-Some-try_seek-clause-own : goal.returns-in-Some-try_seek-clause-own
returns-in-Some-try_seek-clause-own g c = (
  passes_both c.args.pass.now c.loop.pass c.try_seek.new.pass c.loop.invariant.own.0
      c.try_seek.ensures.own.0,
  c.try_seek.ensures.own.1,
)

pub returns-in-Some-try_seek-clause-nothing : goal.returns-in-Some-try_seek-clause-nothing
returns-in-Some-try_seek-clause-nothing g c = c.try_seek.ensures.nothing

pub returns-in-Some-try_seek-clause-columns : goal.returns-in-Some-try_seek-clause-columns
returns-in-Some-try_seek-clause-columns g c = subst
    (λ o. IfSome o (λ (t : Told). columns_told t ≡ columns_by c.args.self.now.found))
    c.in-Some-try_seek.is c.try_seek.ensures.columns

pub try_seek-requires-clause-own : goal.try_seek-requires-clause-own
try_seek-requires-clause-own g c = c.loop.invariant.own.1

pub try_seek-requires-clause-nothing : goal.try_seek-requires-clause-nothing
try_seek-requires-clause-nothing g c = c.loop.invariant.nothing
