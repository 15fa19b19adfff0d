use Rattle.std.proofs.Common.{length, ap, None}
use Rattle.latch_space.specs.Hands.{spread}
use Rattle.latch_law.specs.Views.{without_seen}
use Rattle.latch_space.proofs.Pointwise.{own_from, settled_all, has_learnt, lacks_learnt}
use Rattle.latch_space.proofs.Seats.{live_of, own_word_of, settled_fields, own_after, values_from, rule_from}
use Rattle.latch_space.proofs.settling.Space+W.settle.Goals as goal

pub settle_at-requires-clause-own : goal.settle_at-requires-clause-own
settle_at-requires-clause-own g c = let own = own_from c.pass.inside.parts c.args.pass.now c.pass.view_is c.args.self.now c.requires.own in (own.0, own_word_of c.pass.inside.parts c.args.self.now own.1 c.own_word-word.result c.own_word-word.ensures)

pub settle_at-requires-clause-live : goal.settle_at-requires-clause-live
settle_at-requires-clause-live g c = live_of c.pass.inside.parts

pub settle_at-requires-clause-whole : goal.settle_at-requires-clause-whole
settle_at-requires-clause-whole g c = values_from c.pass.inside.parts c.args.pass.now c.pass.view_is c.as_slice.result.now c.as_slice.ensures.value c.requires.whole

pub invariant_of-pass-inside : goal.invariant_of-pass-inside
invariant_of-pass-inside g c = let p = c.pass.inside.parts in
    let f = settled_fields p c.settle_at.new.seat (spread (length p.seat.me.0.held) c.as_slice.result.now) c.settle_at.ensures.did in
    record { numbers = f.numbers; out = f.out; holding = f.holding; once = f.once; all = f.all; room = p.room }

pub returns-clause-own : goal.returns-clause-own
returns-clause-own g c = own_after c.pass.inside.parts c.args.pass.now c.pass.view_is c.args.self.now c.settle_at.new.seat c.requires.own c.settle_at.ensures.own (ap (λ z. z.0.terms) c.settle_at.ensures.did)

pub returns-clause-did : goal.returns-clause-did
returns-clause-did g c = let p₀ = c.args.pass.now in let p = c.pass.inside.parts in let v = c.settle_at.new.seat.me.0 in
    let d = settled_all p₀ p v c.as_slice.result.now c.pass.view_is c.as_slice.ensures.value (ap (λ z. z.0) c.settle_at.ensures.did) in record {
      view = d.0;
      learnt = record {
        has = λ k m x h. let w = has_learnt p₀ v.held (spread (length v.held) p.hand.items) d.1 d.2 k m x h in record { held = w.0; value = w.1 };
        lacks = lacks_learnt p₀ v.held d.1;
        values = d.2;
        count = d.3;
      };
    }

pub settle_at-requires-clause-rule : goal.settle_at-requires-clause-rule
settle_at-requires-clause-rule g c = rule_from c.pass.inside.parts c.args.pass.now c.pass.view_is c.as_slice.result.now c.as_slice.ensures.value (λ v vs. g.W.World.follows (without_seen v) vs None) c.requires.rule
