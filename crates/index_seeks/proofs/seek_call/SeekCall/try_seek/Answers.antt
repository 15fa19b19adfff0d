use Rattle.std.proofs.Common.{◌∙◌, sym, ap, subst}
use Rattle.latch_law.specs.declared.knows.Terms.{Terms}
use Rattle.latch_space.specs.Passes.{view}
use Rattle.index_law.specs.Shape.{Shape}
use Rattle.buffer_pool.proofs.AgainLemmas.{passes_both}
use Rattle.buffer_pool.specs.AsTaken.{NoException}
use Rattle.index_seeks.specs.SeekSteps.{EndsFromLeaf}
use Rattle.index_seeks.proofs.SeekLearnLemmas.{pair_comes}
use Rattle.index_seeks.proofs.SeekTryLemmas.{tries_pair}
use Rattle.index_seeks.proofs.seek_call.SeekCall.try_seek.Goals as goal

pub returns-clause-tried : goal.returns-clause-tried
returns-clause-tried g c = let call = c.args.self.now in let p = c.args.pass.now in
    let q = c.go_down-pair.new.pass in let r = c.look_on.new.pass in
    let pair = c.go_down-pair.result in let i = call.index in let tuple = call.tuple.now.fields in
    tries_pair NoException p q (view r) i call.mode tuple pair.leaf.block c.look_on.result c.look_on.new.out
    (pair_comes p q i call.mode tuple pair c.go_down-pair.ensures.went c.requires.nothing)
    (subst
    (λ s. EndsFromLeaf s (view q) (view r) pair.leaf.block i call.mode tuple c.look_on.result
    c.look_on.new.out)
    (ap (λ (t : Terms Shape). t.shape) (c.go_down-pair.ensures.own.1.1 ∙ sym c.requires.own.1))
    c.look_on.ensures.ends)

pub returns-clause-own : goal.returns-clause-own
returns-clause-own g c = (
  passes_both c.args.pass.now c.go_down-pair.new.pass c.look_on.new.pass c.go_down-pair.ensures.own.0 c.look_on.ensures.own.0,
  c.look_on.ensures.own.1,
)

pub returns-clause-nothing : goal.returns-clause-nothing
returns-clause-nothing g c = c.look_on.ensures.nothing

pub returns-clause-columns : goal.returns-clause-columns
returns-clause-columns g c = c.look_on.ensures.columns
