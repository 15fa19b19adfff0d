use Rattle.std.proofs.Common.{◌<◌, ◌≤◌, sym, subst, arith, rules, length}
use Rattle.index_law.specs.Shape.{Shape}
use Rattle.forest_law.specs.State.{fields_for}
use Rattle.buffer_pool.proofs.GaveLemmas.{gave_both, gave_none}
use Rattle.tree_descent.proofs.DescentLemmas.{vain_shape, vain_frames, vain_tables}
use Rattle.tree_neighbours.proofs.PairLemmas.{pair_after}
use Rattle.tree_neighbours.proofs.pairs.descend_pair.Goals as goal

pub loop-init : goal.loop-init
loop-init g c =
    record { own = search rules; vain = gave_none c.args.pass.now c.requires.known }

pub try_pair-requires-clause-index : goal.try_pair-requires-clause-index
try_pair-requires-clause-index g c = subst (λ (s : Shape). c.args.index < s.indexes)
    (sym (vain_shape c.args.pass.now c.loop.pass c.loop.invariant.vain.got)) c.requires.index

pub try_pair-requires-clause-fields : goal.try_pair-requires-clause-fields
try_pair-requires-clause-fields g c = subst
    (λ (s : Shape). length (g.T.Fields.fields_of c.args.tuple.now) ≤ fields_for s c.args.index)
    (sym (vain_shape c.args.pass.now c.loop.pass c.loop.invariant.vain.got)) c.requires.fields

pub try_pair-requires-clause-frames : goal.try_pair-requires-clause-frames
try_pair-requires-clause-frames g c =
    vain_frames c.args.pass.now c.loop.pass c.loop.invariant.vain.got c.requires.frames

pub try_pair-requires-clause-tables : goal.try_pair-requires-clause-tables
try_pair-requires-clause-tables g c =
    vain_tables c.args.pass.now c.loop.pass c.loop.invariant.vain.got c.requires.tables

pub try_pair-requires-clause-room : goal.try_pair-requires-clause-room
try_pair-requires-clause-room g c = let same = c.loop.invariant.vain.got.count in
    let room = c.requires.room in omega (arith, same, room)

pub returns-in-Some-try_pair-clause-went : goal.returns-in-Some-try_pair-clause-went
returns-in-Some-try_pair-clause-went g c = pair_after c.args.pass.now c.loop.pass c.loop.invariant.vain
    c.try_pair.new.pass c.args.index c.args.mode (g.T.Fields.fields_of c.args.tuple.now)
    c.in-Some-try_pair.pair c.in-Some-try_pair.ensures.tried

pub loop-preserved : goal.loop-preserved
loop-preserved g c = record {
  own = search rules;
  vain = gave_both c.args.pass.now c.loop.pass c.try_pair.new.pass c.loop.invariant.vain
      c.in_default.ensures.tried;
}
