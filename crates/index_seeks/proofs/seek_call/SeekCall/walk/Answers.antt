use Rattle.std.proofs.Common.{◌∙◌, sym, ap, subst, refl}
use Rattle.latch_law.specs.declared.knows.Terms.{Terms}
use Rattle.latch_space.specs.Passes.{view}
use Rattle.index_law.specs.Shape.{Shape}
use Rattle.forest_world.specs.Held.{shape_of_pass}
use Rattle.buffer_pool.proofs.AgainLemmas.{passes_both}
use Rattle.engine_law.specs.Says.{columns_by}
use Rattle.index_seeks.specs.SeekSteps.{WalksThen, TellsColumns}
use Rattle.index_seeks.proofs.SeekTraceLemmas.{none_pass}
use Rattle.index_seeks.proofs.StepLemmas.{walks_then}
use Rattle.index_seeks.proofs.seek_call.SeekCall.walk.Goals as goal

pub loop-init : goal.loop-init
loop-init g c = let p = c.args.pass.now in record {
  own = ((refl, refl), c.requires.own);
  walks = c.requires.walks;
  passes = none_pass (shape_of_pass p) c.args.self.now.index (view p);
}

pub loop-preserved : goal.loop-preserved
loop-preserved g c = let call = c.args.self.now in let p = c.args.pass.now in
    let q = c.loop.pass in let r = c.step.new.pass in
    let then = walks_then p q r call.index call.mode call.tuple.now.fields c.step.result c.step.new.out
    (ap (λ (t : Terms Shape). t.shape) (c.loop.invariant.own.1.1 ∙ sym c.requires.own.1))
    c.loop.invariant.passes c.step.ensures.then in
    let on = subst
    (λ s. WalksThen p r call.index call.mode call.tuple.now.fields s c.step.new.out) c.in-On.is then in
    record {
      own = (
        passes_both c.args.pass.now c.loop.pass c.step.new.pass c.loop.invariant.own.0
            c.step.ensures.own.0,
        c.step.ensures.own.1,
      );
      walks = on.1;
      passes = on.0;
    }

pub returns-in-Ends-clause-nothing : goal.returns-in-Ends-clause-nothing
returns-in-Ends-clause-nothing g c = let call = c.args.self.now in
    (subst
    (λ s. WalksThen c.loop.pass c.step.new.pass call.index call.mode call.tuple.now.fields s
    c.step.new.out) c.in-Ends.is c.step.ensures.then).0

pub returns-in-Ends-clause-ends : goal.returns-in-Ends-clause-ends
returns-in-Ends-clause-ends g c = let call = c.args.self.now in let p = c.args.pass.now in
    let q = c.loop.pass in let r = c.step.new.pass in
    let then = walks_then p q r call.index call.mode call.tuple.now.fields c.step.result c.step.new.out
    (ap (λ (t : Terms Shape). t.shape) (c.loop.invariant.own.1.1 ∙ sym c.requires.own.1))
    c.loop.invariant.passes c.step.ensures.then in
    (subst (λ s. WalksThen p r call.index call.mode call.tuple.now.fields s c.step.new.out) c.in-Ends.is
    then).1

pub returns-in-Ends-clause-own : goal.returns-in-Ends-clause-own
returns-in-Ends-clause-own g c = (
  passes_both c.args.pass.now c.loop.pass c.step.new.pass c.loop.invariant.own.0
      c.step.ensures.own.0,
  c.step.ensures.own.1,
)

pub returns-in-Ends-clause-columns : goal.returns-in-Ends-clause-columns
returns-in-Ends-clause-columns g c = subst
    (λ s. TellsColumns (columns_by c.args.self.now.found) s) c.in-Ends.is c.step.ensures.columns

pub step-requires-clause-own : goal.step-requires-clause-own
step-requires-clause-own g c = c.loop.invariant.own.1

pub step-requires-clause-walks : goal.step-requires-clause-walks
step-requires-clause-walks g c = c.loop.invariant.walks
