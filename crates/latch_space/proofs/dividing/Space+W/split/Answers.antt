use Rattle.std.proofs.Common.{◌≡◌, ℕ, ◌+◌, ◌-◌, ◌/◌, ◌<◌, ◌≤◌, List, [], ap, ◌∙◌, sym, length, map, subst, Option, None, refl}
use lib.ListN.{length-replicate}
use Rattle.atomic_table.specs.Seated.{TableId}
use Rattle.atomic_table.specs.declared.shared.Seat.{Seat}
use Rattle.latch_law.specs.declared.knows.Holding.{Holding}
use Rattle.latch_law.specs.declared.knows.Knows.{Knows}
use Rattle.latch_law.specs.declared.knows.Terms.{Terms}
use Rattle.latch_law.specs.Views.{left_part, right_part}
use Rattle.latch_space.specs.declared.pass.HeldObject.{HeldObject}
use Rattle.latch_space.specs.declared.pass.PassOf.{PassOf}
use Rattle.latch_space.specs.Hands.{has, is_held, is_once, slot_of, spread}
use Rattle.latch_space.specs.Passes.{view, values, count}
use Rattle.list_facts.proofs.Parts.{middle_inside}
use Rattle.latch_law.proofs.PartKeeps.{splits}
use Rattle.latch_space.proofs.InHand.{none_held}
use Rattle.latch_space.proofs.Pointwise.{own_from, two_from}
use Rattle.latch_space.proofs.Seats.{same_seat, AreFields, own_after, table_after, left_live, right_live, some_words}
use Rattle.latch_space.proofs.dividing.Space+W.split.Goals as goal

-- a pass p that is p₀ is cut; s is one of its parts, and t the same one after a step that kept it
module _ {Sh O C A : Type 0} (p p₀ : PassOf Sh O C A) (is : p ≡ p₀) (s t : Seat (Option O) (Knows Sh O C A)) (kept : t.me ≡ s.me) where
  module _ (cut : s.me ≡ (left_part (view p), p.seat.me.1)) where
    left_is : t.me.0 ≡ left_part (view p)
    left_is = ap (λ z. z.0) (kept ∙ cut)

    left_terms : t.me.0.terms ≡ (view p).terms
    left_terms = ap (λ (z : Knows Sh O C A). z.terms) left_is

    left_fields : (view p₀).low + 2 ≤ (view p₀).end → AreFields t p.low (p.low + (p.end - p.low) / 2) p.hand.items
    left_fields two = let n = p.numbers in let w = left_is in let m = middle_inside (view p).low (view p).end (two_from p p₀ is two) in record {
      numbers = (
        n.0 ∙ sym (ap (λ (z : Knows Sh O C A). z.low) w),
        (λ k. n.0 k + (n.1 k - n.0 k) / 2) ∙ sym (ap (λ (z : Knows Sh O C A). z.end) w),
        subst (λ (z : ℕ × ℕ). z.0 < z.0 + (z.1 - z.0) / 2) (λ k. (sym n.0 k, sym n.1 k)) m.0,
      );
      out = ap (λ z. z.1) (kept ∙ cut) ∙ p.out;
      holding = λ k. p.holding k ∙ ap (λ (z : Knows Sh O C A). is_held z.held k) (sym w);
      once = p.once;
      all = (ap (λ (z : Knows Sh O C A). length z.held) w ∙ (p.all.0 ∙ ap (λ (z : Knows Sh O C A). z.terms.objects) (sym w)), ap (λ (z : Knows Sh O C A). length z.seen) w ∙ (p.all.1 ∙ ap (λ (z : Knows Sh O C A). z.terms.indexes) (sym w)));
    }

    left_keeps : (t.me.0 ≡ left_part (view p₀)) × (spread (length t.me.0.held) p.hand.items ≡ values p₀) × (count p ≡ count p₀)
    left_keeps = (left_is ∙ ap (λ (z : PassOf Sh O C A). left_part (view z)) is, ap (λ (z : Knows Sh O C A). spread (length z.held) p.hand.items) left_is ∙ ap values is, ap count is)

  module _ (cut : s.me ≡ (right_part (view p), [])) (hand : List (HeldObject O)) (none : hand ≡ []) where
    right_is : t.me.0 ≡ right_part (view p)
    right_is = ap (λ z. z.0) (kept ∙ cut)

    right_fields : (view p₀).low + 2 ≤ (view p₀).end → AreFields t (p.low + (p.end - p.low) / 2) p.end hand
    right_fields two = let n = p.numbers in let w = right_is in let hs = (view p).held in let m = middle_inside (view p).low (view p).end (two_from p p₀ is two) in record {
      numbers = (
        (λ k. n.0 k + (n.1 k - n.0 k) / 2) ∙ sym (ap (λ (z : Knows Sh O C A). z.low) w),
        n.1 ∙ sym (ap (λ (z : Knows Sh O C A). z.end) w),
        subst (λ (z : ℕ × ℕ). z.0 + (z.1 - z.0) / 2 < z.1) (λ k. (sym n.0 k, sym n.1 k)) m.1,
      );
      out = ap (λ z. z.1) (kept ∙ cut) ∙ ap (map slot_of) (sym none);
      holding = λ k. ap (has k) none ∙ (none_held (Holding O) (length hs) k ∙ ap (λ (z : Knows Sh O C A). is_held z.held k) (sym w));
      once = ap is_once none;
      all = (ap (λ (z : Knows Sh O C A). length z.held) w ∙ (length-replicate (length hs) None ∙ (p.all.0 ∙ ap (λ (z : Knows Sh O C A). z.terms.objects) (sym w))), ap (λ (z : Knows Sh O C A). length z.seen) w ∙ (p.all.1 ∙ ap (λ (z : Knows Sh O C A). z.terms.indexes) (sym w)));
    }

    right_given : (table : TableId) (terms : Terms Sh) → t.table_id ≡ s.table_id → s.table_id ≡ p.seat.table_id → (p.seat.table_id ≡ table) × ((view p).terms ≡ terms)
        → ((t.table_id ≡ table) × (t.me.0.terms ≡ terms)) × (t.me.0 ≡ right_part (view p₀)) × (length hand ≡ 0)
    right_given table terms same same' own = ((same ∙ (same' ∙ own.0), ap (λ (z : Knows Sh O C A). z.terms) right_is ∙ own.1), right_is ∙ ap (λ (z : PassOf Sh O C A). right_part (view z)) is, ap length none)

pub cut_seat-seat-requires-clause-own : goal.cut_seat-seat-requires-clause-own
cut_seat-seat-requires-clause-own g c = (own_from c.pass.inside.parts c.args.pass.now c.pass.view_is c.args.self.now c.requires.own).0

pub cut_seat-seat-requires-clause-word : goal.cut_seat-seat-requires-clause-word
cut_seat-seat-requires-clause-word g c = some_words c.args.self.now

pub cut_seat-seat-requires-clause-rule : goal.cut_seat-seat-requires-clause-rule
cut_seat-seat-requires-clause-rule g c = splits _ _ _ _ _ _ _ _ _ _ (two_from c.pass.inside.parts c.args.pass.now c.pass.view_is c.requires.two)

pub invariant_of-upper : goal.invariant_of-upper
invariant_of-upper g c =
    let f = right_fields c.pass.inside.parts c.args.pass.now c.pass.view_is c.cut_seat-seat.result c.see-2.new.seat c.see-2.ensures.kept c.cut_seat-seat.ensures.right.1 c.in-Ok.hand.items c.in-Ok.ensures.items c.requires.two in
    record { numbers = f.numbers; out = f.out; holding = f.holding; once = f.once; all = f.all; room = c.in-Ok.ensures.capacity }

pub invariant_of-parts : goal.invariant_of-parts
invariant_of-parts g c =
    let f = left_fields c.pass.inside.parts c.args.pass.now c.pass.view_is c.cut_seat-seat.new.seat c.see.new.seat c.see.ensures.kept c.cut_seat-seat.ensures.left c.requires.two in
    record { numbers = f.numbers; out = f.out; holding = f.holding; once = f.once; all = f.all; room = c.pass.inside.parts.room }

pub see-requires-clause-own : goal.see-requires-clause-own
see-requires-clause-own g c = table_after c.pass.inside.parts c.args.pass.now c.pass.view_is c.args.self.now c.cut_seat-seat.new.seat c.requires.own c.cut_seat-seat.ensures.own.0

pub see-requires-clause-live : goal.see-requires-clause-live
see-requires-clause-live g c = left_live c.pass.inside.parts.seat.me.0 c.cut_seat-seat.new.seat.me.0 (two_from c.pass.inside.parts c.args.pass.now c.pass.view_is c.requires.two) (ap (λ z. z.0) c.cut_seat-seat.ensures.left)

pub see-requires-2-clause-own : goal.see-requires-2-clause-own
see-requires-2-clause-own g c = table_after c.pass.inside.parts c.args.pass.now c.pass.view_is c.args.self.now c.cut_seat-seat.result c.requires.own c.cut_seat-seat.ensures.right.0

pub see-requires-2-clause-live : goal.see-requires-2-clause-live
see-requires-2-clause-live g c = right_live c.pass.inside.parts.seat.me.0 c.cut_seat-seat.result.me.0 (two_from c.pass.inside.parts c.args.pass.now c.pass.view_is c.requires.two) (ap (λ z. z.0) c.cut_seat-seat.ensures.right.1)

pub invariant_of-result : goal.invariant_of-result
invariant_of-result g c = c.see-2.ensures.fits

pub invariant_of-pass : goal.invariant_of-pass
invariant_of-pass g c = c.see.ensures.fits

pub returns-clause-own : goal.returns-clause-own
returns-clause-own g c = own_after c.pass.inside.parts c.args.pass.now c.pass.view_is c.args.self.now c.see.new.seat c.requires.own
    (same_seat c.pass.inside.parts.seat c.cut_seat-seat.new.seat c.see.new.seat (c.cut_seat-seat.ensures.own.0, c.cut_seat-seat.ensures.own.1) c.see.ensures.own) (left_terms c.pass.inside.parts c.args.pass.now c.pass.view_is c.cut_seat-seat.new.seat c.see.new.seat c.see.ensures.kept c.cut_seat-seat.ensures.left)

pub returns-clause-kept : goal.returns-clause-kept
returns-clause-kept g c = left_keeps c.pass.inside.parts c.args.pass.now c.pass.view_is c.cut_seat-seat.new.seat c.see.new.seat c.see.ensures.kept c.cut_seat-seat.ensures.left

pub returns-clause-given : goal.returns-clause-given
returns-clause-given g c = right_given c.pass.inside.parts c.args.pass.now c.pass.view_is c.cut_seat-seat.result c.see-2.new.seat c.see-2.ensures.kept c.cut_seat-seat.ensures.right.1 c.in-Ok.hand.items c.in-Ok.ensures.items
    c.args.self.now.table.shared.table_id c.args.self.now.terms c.see-2.ensures.own.0 c.cut_seat-seat.ensures.right.0 (own_from c.pass.inside.parts c.args.pass.now c.pass.view_is c.args.self.now c.requires.own)

pub returns-clause-fits : goal.returns-clause-fits
returns-clause-fits g c = (c.see.ensures.fits, c.see-2.ensures.fits)

pub returns-in_default-clause-own : goal.returns-in_default-clause-own
returns-in_default-clause-own g c = ((refl, refl), c.requires.own)

pub returns-in_default-clause-err : goal.returns-in_default-clause-err
returns-in_default-clause-err g c = (refl, refl, refl)

pub returns-in_default-clause-fits : goal.returns-in_default-clause-fits
returns-in_default-clause-fits g c = (c.fits.ensures, tt)
