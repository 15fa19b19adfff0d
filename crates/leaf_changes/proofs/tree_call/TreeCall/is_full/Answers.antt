use Rattle.std.proofs.Common.{ap, ◌∙◌, sym, arith}
use Rattle.latch_space.proofs.Pointwise.{sees_each}
use Rattle.engine_law.proofs.LookLemmas.{looks, look_full, full_look}
use Rattle.leaf_changes.proofs.tree_call.TreeCall.is_full.Goals as goal

pub returns-clause-looked : goal.returns-clause-looked
returns-clause-looked g c = looks c.args.pass.now c.read_point.new.pass c.args.self.now.index
    c.read_point.result c.read_point.ensures.did

pub returns-clause-full : goal.returns-clause-full
returns-clause-full g c = let call = c.args.self.now in let p = c.args.pass.now in
    let q = c.read_point.new.pass in let terms = c.requires.own.1 in
    let indexes = ap (λ z. z.indexes) terms in let below = call.there in
    let lists = call.forest.lists in
    let room = sees_each p call.index (omega (arith, indexes, lists, below)) in
    let most = c.requires.most ∙ ap (λ z. z.max_changes) (sym terms) in (
      look_full p q call.index c.read_point.result c.read_point.ensures.did room c.args.most most,
      full_look p q call.index c.read_point.result c.read_point.ensures.did room c.args.most most,
    )

pub returns-clause-own : goal.returns-clause-own
returns-clause-own g c = c.read_point.ensures.own

pub returns-clause-kept : goal.returns-clause-kept
returns-clause-kept g c = c.read_point.ensures.kept
