use Rattle.std.proofs.Common.{ap, ◌∙◌, sym, arith}
use Rattle.latch_space.specs.Passes.{view}
use Rattle.latch_space.proofs.Pointwise.{sees_each}
use Rattle.index_law.specs.Answers.{Look}
use Rattle.engine_law.proofs.LookLemmas.{looks}
use Rattle.index_seeks.proofs.SawLemmas.{counts_past}
use Rattle.index_seeks.proofs.seek_call.SeekCall.count_changes.Goals as goal

pub returns-then-speaks_at-clause-looked : goal.returns-then-speaks_at-clause-looked
returns-then-speaks_at-clause-looked g c = looks c.args.pass.now c.read_point-point.new.pass
    c.args.self.now.index c.read_point-point.result c.read_point-point.ensures.did

pub returns-then-speaks_at-clause-past : goal.returns-then-speaks_at-clause-past
returns-then-speaks_at-clause-past g c = let call = c.args.self.now in let p = c.args.pass.now in
    let indexes = ap (λ z. z.indexes) c.requires.own.1 in let below = call.there in
    let lists = call.forest.lists in
    let room = sees_each p call.index (omega (arith, indexes, lists, below)) in
    counts_past (view p) (view c.read_point-point.new.pass) call.index call.mode call.tuple.now.fields
    c.args.bound Look c.read_point-point.result c.read_point-point.ensures.did room
    (sym c.speaks_at.ensures ∙ c.if-speaks_at.true)

pub returns-else-speaks_at-clause-looked : goal.returns-else-speaks_at-clause-looked
returns-else-speaks_at-clause-looked g c = looks c.args.pass.now c.read_point-point.new.pass
    c.args.self.now.index c.read_point-point.result c.read_point-point.ensures.did

pub returns-then-speaks_at-clause-own : goal.returns-then-speaks_at-clause-own
returns-then-speaks_at-clause-own g c = c.read_point-point.ensures.own

pub returns-else-speaks_at-clause-own : goal.returns-else-speaks_at-clause-own
returns-else-speaks_at-clause-own g c = c.read_point-point.ensures.own

pub returns-then-speaks_at-clause-kept : goal.returns-then-speaks_at-clause-kept
returns-then-speaks_at-clause-kept g c = c.read_point-point.ensures.kept

pub returns-else-speaks_at-clause-kept : goal.returns-else-speaks_at-clause-kept
returns-else-speaks_at-clause-kept g c = c.read_point-point.ensures.kept
