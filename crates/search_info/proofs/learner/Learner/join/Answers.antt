use Rattle.std.proofs.Common.{◌≡◌, ap, ◌∙◌, sym, arith, length}
use Rattle.search_info.specs.declared.knows.Knows.{Knows}
use Rattle.search_info.specs.Parts.{joined_parts}
use Rattle.list_facts.proofs.Parts.{length-longer}
use Rattle.search_info.proofs.PartLemmas.{joins}
use Rattle.search_info.proofs.learner.Learner.join.Goals as goal

pub join_seat-requires : goal.join_seat-requires
join_seat-requires c = let words = c.args.self.now.words in let p = c.args.pass.now in let q = c.args.other in let n = p.numbers in let m = q.numbers in let s = c.into_seat-seat.ensures in
    let e : c.into_seat-seat.result.me.0 ≡ q.seat.me.0 = ap (λ z. z.0) s.me in let low = ap (λ (z : Knows). z.low) e in let end = ap (λ (z : Knows). z.end) e in (
      c.requires.own.0,
      s.seat.0 ∙ c.requires.others.0,
      ap (λ z. z.1) s.me ∙ q.nothing,
      omega (arith, words),
      joins _ _ p.seat.me.0 _ c.into_seat-seat.result.me.0 (omega (arith, n.0, n.1, n.2)) (omega (arith, m.0, m.1, m.2, low, end)) (c.requires.next ∙ sym low),
    )

pub invariant_of-pass : goal.invariant_of-pass
invariant_of-pass c = let p = c.args.pass.now in let q = c.args.other in let n = p.numbers in let m = q.numbers in let me = c.join_seat.ensures.2 in let v = p.seat.me.0 in let u = q.seat.me.0 in let meet = c.requires.next in
    let e : c.into_seat-seat.result.me.0 ≡ u = ap (λ z. z.0) c.into_seat-seat.ensures.me in
    let w : c.join_seat.new.seat.me.0 ≡ joined_parts v u = ap (λ z. z.0) me ∙ ap (joined_parts v) e in
    let same : v.opening ≡ u.opening = c.requires.own.1 ∙ sym c.requires.others.1 in record {
      numbers = (n.0 ∙ sym (ap (λ (z : Knows). z.low) w), m.1 ∙ sym (ap (λ (z : Knows). z.end) w), omega (arith, n.0, n.1, n.2, m.0, m.1, m.2, meet));
      all = ap (λ (z : Knows). length z.seen) w ∙ (length-longer v.seen u.seen (p.all ∙ (ap (λ z. length z.starts) same ∙ sym q.all)) ∙ (p.all ∙ ap (λ (z : Knows). length z.opening.starts) (sym w)));
      nothing = ap (λ z. z.1) me ∙ p.nothing;
    }
