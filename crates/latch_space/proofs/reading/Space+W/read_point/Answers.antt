use Rattle.latch_law.specs.Fitting.{DidRead, MayAnswer}
use Rattle.std.proofs.Common.{ap, sym}
use Rattle.latch_space.proofs.Pointwise.{own_from}
use Rattle.latch_space.proofs.Seats.{live_of, index_in, fields_stay, own_after, hands_stay, reads_stay, read_fitted, view_from}
use Rattle.latch_space.proofs.reading.Space+W.read_point.Goals as goal

pub read_at-requires-clause-own : goal.read_at-requires-clause-own
read_at-requires-clause-own g c = own_from c.pass.inside.parts c.args.pass.now c.pass.view_is c.args.self.now c.requires.own

pub read_at-requires-clause-live : goal.read_at-requires-clause-live
read_at-requires-clause-live g c = live_of c.pass.inside.parts

pub read_at-requires-clause-index : goal.read_at-requires-clause-index
read_at-requires-clause-index g c = let p = c.pass.inside.parts in index_in c.args.self.now p c.args.index (own_from p c.args.pass.now c.pass.view_is c.args.self.now c.requires.own) c.requires.index

pub invariant_of-pass-inside : goal.invariant_of-pass-inside
invariant_of-pass-inside g c = let p = c.pass.inside.parts in
    let f = fields_stay p c.read_at.new.seat (reads_stay g.W.World.lawful g.W.World.answers g.W.World.refers p.seat.me.0 c.read_at.new.seat.me.0 c.args.index c.read_at.result (g.N.Means.meaning c.args.answer.now) c.read_at.ensures.did) c.read_at.ensures.slots in
    record { numbers = f.numbers; out = f.out; holding = f.holding; once = f.once; all = f.all; room = p.room }

pub invariant_of-pass : goal.invariant_of-pass
invariant_of-pass g c = read_fitted g.W.World.lawful g.W.World.answers g.W.World.refers c.pass.inside.parts.seat.me.0 c.read_at.new.seat.me.0 c.args.index c.read_at.result (g.N.Means.meaning c.args.answer.now) c.read_at.ensures.did

pub returns-clause-own : goal.returns-clause-own
returns-clause-own g c = let p = c.pass.inside.parts in
    own_after p c.args.pass.now c.pass.view_is c.args.self.now c.read_at.new.seat c.requires.own c.read_at.ensures.own (reads_stay g.W.World.lawful g.W.World.answers g.W.World.refers p.seat.me.0 c.read_at.new.seat.me.0 c.args.index c.read_at.result (g.N.Means.meaning c.args.answer.now) c.read_at.ensures.did).terms

pub returns-clause-kept : goal.returns-clause-kept
returns-clause-kept g c = let same = hands_stay c.pass.inside.parts c.args.pass.now c.pass.view_is c.read_at.new.seat.me.0 (ap (λ z. z.held) c.read_at.ensures.did.view) in
    record { held = same.0; values = same.1; count = same.2 }

pub returns-clause-fits : goal.returns-clause-fits
returns-clause-fits g c = read_fitted g.W.World.lawful g.W.World.answers g.W.World.refers c.pass.inside.parts.seat.me.0 c.read_at.new.seat.me.0 c.args.index c.read_at.result (g.N.Means.meaning c.args.answer.now) c.read_at.ensures.did

pub returns-clause-did : goal.returns-clause-did
returns-clause-did g c = view_from c.args.pass.now c.pass.inside.parts (sym c.pass.view_is)
    (λ v. DidRead g.W.World.lawful g.W.World.answers g.W.World.refers v c.args.index (g.N.Means.meaning c.args.answer.now) c.read_at.result c.read_at.new.seat.me.0) c.read_at.ensures.did

pub read_at-requires-clause-rule : goal.read_at-requires-clause-rule
read_at-requires-clause-rule g c = view_from c.pass.inside.parts c.args.pass.now c.pass.view_is (λ v. MayAnswer g.W.World.lawful g.W.World.answers g.W.World.refers v c.args.index (g.N.Means.meaning c.args.answer.now)) c.requires.rule
