use Rattle.latch_space.specs.Commits.{EndsCommit}
use Rattle.latch_law.specs.Views.{without_seen}
use Rattle.latch_law.specs.Fitting.{AreValuesOf}
use Rattle.std.proofs.Common.{refl, ap, ◌∙◌, sym, Some}
use Rattle.latch_space.specs.Hands.{spread}
use Rattle.latch_space.specs.Passes.{values, count}
use Rattle.latch_space.proofs.Ending.{ends_stay, ends_fitted, foretells_of}
use Rattle.latch_space.proofs.Pointwise.{own_from}
use Rattle.latch_space.proofs.Seats.{index_in, live_of, own_after, view_from}
use Rattle.latch_space.proofs.committing.Space+W.commit_ahead.Goals as goal

pub commit_in-requires-clause-own : goal.commit_in-requires-clause-own
commit_in-requires-clause-own g c = own_from c.pass.inside.parts c.args.pass.now c.pass.view_is c.args.self.now c.requires.own

pub commit_in-requires-clause-live : goal.commit_in-requires-clause-live
commit_in-requires-clause-live g c = live_of c.pass.inside.parts

pub commit_in-requires-clause-index : goal.commit_in-requires-clause-index
commit_in-requires-clause-index g c = let p = c.pass.inside.parts in index_in c.args.self.now p c.args.index (own_from p c.args.pass.now c.pass.view_is c.args.self.now c.requires.own) c.requires.index

pub invariant_of-pass-inside : goal.invariant_of-pass-inside
invariant_of-pass-inside g c = let p = c.pass.inside.parts in let n = p.numbers in
    let s = ends_stay g.W.World.lawful g.W.World.answers g.W.World.refers p.seat.me.0 c.commit_in.new.seat.me.0 c.args.index g.X.Values.values (g.N.Means.meaning c.args.change.now) c.commit_in.result c.commit_in.ensures.did in record {
      numbers = (n.0 ∙ sym s.low, n.1 ∙ sym s.end, n.2);
      out = c.commit_in.ensures.slots ∙ p.out;
      holding = λ k. p.holding k ∙ sym (s.holding k);
      once = p.once;
      all = (s.held ∙ (p.all.0 ∙ ap (λ z. z.objects) (sym s.terms)), s.seen ∙ (p.all.1 ∙ ap (λ z. z.indexes) (sym s.terms)));
      room = p.room;
    }

pub invariant_of-pass : goal.invariant_of-pass
invariant_of-pass g c = ends_fitted g.W.World.lawful g.W.World.answers g.W.World.refers c.pass.inside.parts.seat.me.0 _ c.args.index g.X.Values.values (g.N.Means.meaning c.args.change.now) c.commit_in.result c.commit_in.ensures.did

pub returns-clause-kept : goal.returns-clause-kept
returns-clause-kept g c = let p = c.pass.inside.parts in
    let s = ends_stay g.W.World.lawful g.W.World.answers g.W.World.refers p.seat.me.0 c.commit_in.new.seat.me.0 c.args.index g.X.Values.values (g.N.Means.meaning c.args.change.now) c.commit_in.result c.commit_in.ensures.did in
    (ap (λ z. spread z p.hand.items) s.held ∙ ap values c.pass.view_is, ap count c.pass.view_is)

pub returns-clause-hands : goal.returns-clause-hands
returns-clause-hands g c = foretells_of g.W.World.lawful g.W.World.answers g.W.World.refers g.X.Values.values c.args.pass.now c.pass.inside.parts _ c.args.index (g.N.Means.meaning c.args.change.now) c.commit_in.result c.pass.view_is c.commit_in.ensures.did refl

pub returns-clause-fits : goal.returns-clause-fits
returns-clause-fits g c = ends_fitted g.W.World.lawful g.W.World.answers g.W.World.refers c.pass.inside.parts.seat.me.0 _ c.args.index g.X.Values.values (g.N.Means.meaning c.args.change.now) c.commit_in.result c.commit_in.ensures.did

pub returns-clause-own : goal.returns-clause-own
returns-clause-own g c = let p = c.pass.inside.parts in
    let s = ends_stay g.W.World.lawful g.W.World.answers g.W.World.refers p.seat.me.0 c.commit_in.new.seat.me.0 c.args.index g.X.Values.values (g.N.Means.meaning c.args.change.now) c.commit_in.result c.commit_in.ensures.did in
    own_after p c.args.pass.now c.pass.view_is c.args.self.now c.commit_in.new.seat c.requires.own c.commit_in.ensures.own s.terms

pub commit_in-requires-clause-whole : goal.commit_in-requires-clause-whole
commit_in-requires-clause-whole g c = view_from c.pass.inside.parts c.args.pass.now c.pass.view_is (λ v. AreValuesOf v g.X.Values.values) c.requires.whole

pub returns-clause-did : goal.returns-clause-did
returns-clause-did g c = view_from c.args.pass.now c.pass.inside.parts (sym c.pass.view_is)
    (λ v. EndsCommit g.W.World.lawful g.W.World.answers g.W.World.refers v c.args.index g.X.Values.values (g.N.Means.meaning c.args.change.now) c.commit_in.result c.commit_in.new.seat.me.0) c.commit_in.ensures.did

pub commit_in-requires-clause-rule : goal.commit_in-requires-clause-rule
commit_in-requires-clause-rule g c = view_from c.pass.inside.parts c.args.pass.now c.pass.view_is (λ v. g.W.World.follows (without_seen v) g.X.Values.values (Some (c.args.index, g.N.Means.meaning c.args.change.now))) c.requires.rule
