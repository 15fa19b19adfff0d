use Rattle.std.proofs.Common.{inl, inr, subst, ◌≡◌, IfSome}
use Rattle.map_history.specs.Told.{columns_told}
use Rattle.map_history.specs.declared.reply.Told.{Told}
use Rattle.latch_space.specs.Passes.{view}
use Rattle.forest_world.specs.Held.{shape_of_pass}
use Rattle.buffer_pool.proofs.AgainLemmas.{passes_both}
use Rattle.engine_law.specs.Says.{columns_by}
use Rattle.index_seeks.specs.SeekSteps.{EndsFromLeaf}
use Rattle.index_seeks.proofs.seek_call.SeekCall.seek.Goals as goal

pub returns-in-Some-clause-told : goal.returns-in-Some-clause-told
returns-in-Some-clause-told g c = let call = c.args.self.now in let p = c.args.pass.now in
    let q = c.look_on.new.pass in
    inl (subst (λ o. EndsFromLeaf (shape_of_pass p) (view p) (view q) c.args.pair.now.leaf.block
    call.index call.mode call.tuple.now.fields o c.look_on.new.out) c.in-Some.is c.look_on.ensures.ends)

pub returns-in-None-clause-told : goal.returns-in-None-clause-told
returns-in-None-clause-told g c = let call = c.args.self.now in let p = c.args.pass.now in
    let q = c.look_on.new.pass in inr (record {
      between = view q;
      out = c.look_on.new.out;
      first = subst (λ o. EndsFromLeaf (shape_of_pass p) (view p) (view q)
          c.args.pair.now.leaf.block call.index call.mode call.tuple.now.fields o c.look_on.new.out)
          c.in-None.is c.look_on.ensures.ends;
      again = c.seek_again.ensures.told;
    })

pub returns-in-Some-clause-own : goal.returns-in-Some-clause-own
returns-in-Some-clause-own g c = c.look_on.ensures.own

pub returns-in-Some-clause-nothing : goal.returns-in-Some-clause-nothing
returns-in-Some-clause-nothing g c = c.look_on.ensures.nothing

pub returns-in-Some-clause-columns : goal.returns-in-Some-clause-columns
returns-in-Some-clause-columns g c = subst
    (λ o. IfSome o (λ (t : Told). columns_told t ≡ columns_by c.args.self.now.found)) c.in-Some.is
    c.look_on.ensures.columns

pub returns-in-None-clause-own : goal.returns-in-None-clause-own
returns-in-None-clause-own g c = (
  passes_both c.args.pass.now c.look_on.new.pass c.seek_again.new.pass c.look_on.ensures.own.0 c.seek_again.ensures.own.0,
  c.seek_again.ensures.own.1,
)

pub returns-in-None-clause-nothing : goal.returns-in-None-clause-nothing
returns-in-None-clause-nothing g c = c.seek_again.ensures.nothing

pub returns-in-None-clause-columns : goal.returns-in-None-clause-columns
returns-in-None-clause-columns g c = c.seek_again.ensures.columns
