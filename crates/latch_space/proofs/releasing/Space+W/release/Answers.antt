use Rattle.std.proofs.Common.{arith, ◌≡◌, ℕ, ◌+◌, ◌-◌, ◌<◌, ◌≤◌, ◌++◌, ◌∷◌, ap, ◌∙◌, sym, subst, length, List, map, set, drop, take, get_or, remove, Option, Some, None, length-set, vec_len, true, refl}
use mathlib.Core.Option.{some}
use lib.ListN.{get_elem?, length-map}
use Rattle.atomic_table.specs.Table.{rest}
use Rattle.atomic_table.specs.declared.shared.Seat.{Seat}
use Rattle.latch_law.specs.declared.knows.Holding.{Holding}
use Rattle.latch_law.specs.declared.knows.Knows.{Knows}
use Rattle.latch_law.specs.Whole.{StateLaw, AnswerLaw, ReferenceLaw}
use Rattle.latch_space.specs.declared.pass.HeldObject.{HeldObject}
use Rattle.latch_space.specs.declared.pass.PassOf.{PassOf}
use Rattle.latch_space.specs.Hands.{has, is_held, is_once, slot_of, spread}
use Rattle.latch_law.specs.Rule.{Holds}
use Rattle.latch_law.proofs.Keeps.{releases}
use Rattle.list_facts.proofs.Places.{inside, one_value}
use Rattle.latch_space.proofs.InHand.{front, same_front, has_shown, place_shows, others, front_slots, back_slots, length_others, holding_removed, once_remove, spread_remove}
use Rattle.latch_law.specs.Fitting.{MayRelease}
use Rattle.latch_law.specs.Views.{releasing}
use Rattle.latch_space.specs.Passes.{view, values, Shows}
use Rattle.latch_space.proofs.Pointwise.{Releases, own_from, released_of}
use Rattle.latch_space.proofs.Seats.{same_seat, AreFields, fitted_from, live_of, own_after, room_stays, view_from, word_of, table_after}
use Rattle.latch_space.proofs.releasing.Space+W.release.Goals as goal

-- gone is what was taken from the place i of a hand, where the object k stood
record IsTaken {Sh O C A : Type 0} (p : PassOf Sh O C A) (i k : ℕ) (gone : HeldObject O) : Type 0 where
  at : get_elem? p.hand.items i ≡ some gone
  object : gone.object ≡ k
  within : gone.object < length (view p).held
  shows : get_elem? (values p) k ≡ some gone.value

-- what its slot needs at the step that frees it
record IsReady {Sh O C A : Type 0} (lawful : StateLaw Sh O C) (answers : AnswerLaw Sh O C A) (refers : ReferenceLaw Sh O C) (s t : Seat (Option O) (Knows Sh O C A)) (k : ℕ) (h : Holding O) : Type 0 where
  live : t.me.0.low < t.me.0.end
  slots : t.me.1 ≡ (k, Some h.known) ∷ rest s.me.1
  holds : Holds t.me.0 k h
  rule : MayRelease lawful answers refers t.me.0 k

module _ {Sh O C A : Type 0} where
  shown_still : (p p₀ : PassOf Sh O C A) → p ≡ p₀ → (k : ℕ) (h : Holding O) → Shows p₀ k h.known → Shows p k h.known
  shown_still p p₀ is k h shows = subst (λ (z : PassOf Sh O C A). Shows z k h.known) (sym is) shows

  -- an object that a pass has in hand with its known value stands there
  has_known : (p p₀ : PassOf Sh O C A) → p ≡ p₀ → (k : ℕ) (h : Holding O) → Shows p₀ k h.known → has k p.hand.items ≡ true
  has_known p p₀ is k h shows = has_shown (length (view p).held) p.hand.items k h.known (shown_still p p₀ is k h shows)

  held_still : (p p₀ : PassOf Sh O C A) → p ≡ p₀ → (k : ℕ) (h : Holding O) → Holds (view p₀) k h → Holds (view p) k h
  held_still p p₀ is k h held = subst (λ (z : PassOf Sh O C A). Holds (view z) k h) (sym is) held

  module _ (p : PassOf Sh O C A) (i k : ℕ) (hand : List (HeldObject O)) (is : hand ≡ p.hand.items) (found : (w : HeldObject O) × (get_elem? hand i ≡ some w) × (w.object ≡ k)) where
    place_within : i < length p.hand.items
    place_within = inside p.hand.items i found.0 (ap (λ (z : List (HeldObject O)). get_elem? z i) (sym is) ∙ found.1)

    may_turn : i ≤ length p.seat.me.1
    may_turn = let within = place_within in let same = ap length p.out in let slots = length-map p.hand.items slot_of in omega (arith, within, same, slots)

    may_remove : i < vec_len p.hand
    may_remove = let within = place_within in let ok = p.hand.ok.0 in omega (arith, within, ok)

    taken_at : (gone : HeldObject O) → gone ≡ get_or p.hand.items i gone → IsTaken p i k gone
    taken_at gone removed = let s = place_shows (view p).held p.hand.items p.holding p.once i k (found.0, ap (λ (z : List (HeldObject O)). get_elem? z i) (sym is) ∙ found.1, found.2) gone removed in
        record { at = s.0; object = s.1; within = subst (λ (z : ℕ). z < length (view p).held) (sym s.1) s.2; shows = s.3 }

  module _ (p : PassOf Sh O C A) (i k : ℕ) (gone : HeldObject O) (taken : IsTaken p i k gone) where
    -- the number of places behind it
    behind_is : (n m : ℕ) → n ≡ m → m + 1 ≡ vec_len p.hand → (n - i) + (i + 1) ≡ length p.hand.items
    behind_is n m same few = let ok = p.hand.ok.0 in let within = inside p.hand.items i gone taken.at in omega (arith, same, few, ok, within)

    no_less : (n m : ℕ) → n ≡ m → m + 1 ≡ vec_len p.hand → i ≤ n
    no_less n m same few = let ok = p.hand.ok.0 in let within = inside p.hand.items i gone taken.at in omega (arith, same, few, ok, within)

    -- its slot is at the front of the seat s
    module _ (s : Seat (Option O) (Knows Sh O C A)) (turned : s.me.1 ≡ drop i p.seat.me.1 ++ take i p.seat.me.1) where
      front_is : s.me.1 ≡ (gone.object, None) ∷ others p.hand.items i
      front_is = turned ∙ (ap (λ (z : List (ℕ × Option O)). drop i z ++ take i z) p.out ∙ front_slots p.hand.items i gone taken.at)

      front_there : (old : Option O) × (s.me.1 ≡ (gone.object, old) ∷ rest s.me.1)
      front_there = (None, front s.me.1 (gone.object, None) (others p.hand.items i) front_is)

      was_empty : (empty : Option O) → s.me.1 ≡ (gone.object, empty) ∷ rest s.me.1 → empty ≡ None
      was_empty empty is = same_front s.me.1 (rest s.me.1) (others p.hand.items i) gone.object empty None is front_is

      -- and the object is at home in the seat t
      module _ (t : Seat (Option O) (Knows Sh O C A)) (boxed : Option O) (same : s.me.0 ≡ view p) (put : t.me ≡ (s.me.0, (gone.object, boxed) ∷ rest s.me.1)) (h : Holding O) (held : Holds (view p) k h) where
        view_still : t.me.0 ≡ view p
        view_still = ap (λ z. z.0) put ∙ same

        holds_still : Holds t.me.0 gone.object h
        holds_still = ap (λ (z : Knows Sh O C A). get_elem? z.held gone.object) view_still ∙ (ap (get_elem? (view p).held) taken.object ∙ held)

        ready : (lawful : StateLaw Sh O C) (answers : AnswerLaw Sh O C A) (refers : ReferenceLaw Sh O C) → boxed ≡ gone.value → Shows p k h.known → MayRelease lawful answers refers (view p) k
            → IsReady lawful answers refers s t gone.object h
        ready lawful answers refers boxes shown may = let known : boxed ≡ Some h.known = boxes ∙ one_value (values p) k gone.value (Some h.known) taken.shows shown in record {
          live = subst (λ (z : Knows Sh O C A). z.low < z.end) (sym view_still) (live_of p);
          slots = ap (λ z. z.1) put ∙ ap (λ (z : Option O). (gone.object, z) ∷ rest s.me.1) known;
          holds = holds_still;
          rule = subst (λ (z : Knows Sh O C A × ℕ). MayRelease lawful answers refers z.0 z.1) (λ j. (sym view_still j, sym taken.object j)) may;
        }

        -- what is left once it went out from the seat u
        gone_from : (u : Seat (Option O) (Knows Sh O C A)) → ((g : Holding O) → Holds t.me.0 gone.object g → u.me ≡ (releasing t.me.0 gone.object g, rest t.me.1))
            → (u.me.0 ≡ releasing (view p) gone.object h) × (u.me.1 ≡ others p.hand.items i)
        gone_from u freed = let e = freed h holds_still in
            (ap (λ z. z.0) e ∙ ap (λ (z : Knows Sh O C A). releasing z gone.object h) view_still, ap (λ z. z.1) e ∙ (ap (λ z. rest z.1) put ∙ ap rest front_is))

    -- u is the seat that it went out from, and w the one whose slots are in order again
    module _ (h : Holding O) (u w : Seat (Option O) (Knows Sh O C A)) (out : (u.me.0 ≡ releasing (view p) gone.object h) × (u.me.1 ≡ others p.hand.items i)) (same : w.me.0 ≡ u.me.0) where
      may_turn_behind : (r : ℕ) → r + (i + 1) ≡ length p.hand.items → r ≤ length u.me.1
      may_turn_behind r behind = let l = length_others p.hand.items i r behind in let e = ap length out.1 in omega (arith, l, e)

      terms_after : w.me.0.terms ≡ (view p).terms
      terms_after = ap (λ (z : Knows Sh O C A). z.terms) (same ∙ out.0)

      fields_after : (r : ℕ) (hand : List (HeldObject O)) → r + (i + 1) ≡ length p.hand.items → w.me.1 ≡ drop r u.me.1 ++ take r u.me.1 → hand ≡ remove p.hand.items i → AreFields w p.low p.end hand
      fields_after r hand behind turned is = let n = p.numbers in let hs = (view p).held in let v : w.me.0 ≡ releasing (view p) gone.object h = same ∙ out.0 in record {
        numbers = (n.0 ∙ sym (ap (λ (z : Knows Sh O C A). z.low) v), n.1 ∙ sym (ap (λ (z : Knows Sh O C A). z.end) v), n.2);
        out = turned ∙ (ap (λ (z : List (ℕ × Option O)). drop r z ++ take r z) out.1 ∙ (back_slots p.hand.items i r behind ∙ ap (map slot_of) (sym is)));
        holding = λ j. ap (has j) is ∙ (holding_removed hs p.hand.items gone i p.once taken.at taken.within p.holding j ∙ ap (λ (z : Knows Sh O C A). is_held z.held j) (sym v));
        once = ap is_once is ∙ once_remove p.hand.items i p.once;
        all = (ap (λ (z : Knows Sh O C A). length z.held) v ∙ (length-set hs gone.object None ∙ (p.all.0 ∙ sym (ap (λ (z : Knows Sh O C A). z.terms.objects) v))), ap (λ (z : Knows Sh O C A). length z.seen) v ∙ (p.all.1 ∙ sym (ap (λ (z : Knows Sh O C A). z.terms.indexes) v)));
      }

      did_release : (p₀ : PassOf Sh O C A) (hand : List (HeldObject O)) (len : ℕ) → p ≡ p₀ → Holds (view p) k h → hand ≡ remove p.hand.items i → len ≡ length hand → len + 1 ≡ vec_len p.hand → Releases p₀ k w.me.0 (spread (length w.me.0.held) hand) (length hand)
      did_release p₀ hand len is held now count few = let hs = (view p).held in let ps = p.hand.items in let v : w.me.0 ≡ releasing (view p) gone.object h = same ∙ out.0 in
          let vals : spread (length w.me.0.held) hand ≡ set (values p) k None = (λ j. spread (length (v j).held) (now j)) ∙ (ap (λ (z : ℕ). spread z (remove ps i)) (length-set hs gone.object None) ∙ (spread_remove (length hs) ps i gone p.once taken.at taken.within ∙ ap (λ (z : ℕ). set (values p) z None) taken.object)) in
          let ok = p.hand.ok.0 in
          released_of p p₀ is w.me.0 (spread (length w.me.0.held) hand) (length hand) k h held (v ∙ ap (λ (z : ℕ). releasing (view p) z h) taken.object) vals (omega (arith, few, ok, count))

pub place_of-i-requires : goal.place_of-i-requires
place_of-i-requires g c = ap (has c.args.object) c.as_slice.ensures.value ∙ has_known c.pass.inside.parts c.args.pass.now c.pass.view_is c.args.object c.requires.known.0 c.requires.known.2

pub turn_by-requires : goal.turn_by-requires
turn_by-requires g c = record { few = may_turn c.pass.inside.parts c.place_of-i.result c.args.object c.as_slice.result.now c.as_slice.ensures.value c.place_of-i.ensures }

pub remove-slot-requires : goal.remove-slot-requires
remove-slot-requires g c = may_remove c.pass.inside.parts c.place_of-i.result c.args.object c.as_slice.result.now c.as_slice.ensures.value c.place_of-i.ensures

pub swap_slot-empty-requires-clause-own : goal.swap_slot-empty-requires-clause-own
swap_slot-empty-requires-clause-own g c = table_after c.pass.inside.parts c.args.pass.now c.pass.view_is c.args.self.now c.turn_by.new.seat c.requires.own c.turn_by.ensures.own.0

pub swap_slot-empty-requires-clause-last : goal.swap_slot-empty-requires-clause-last
swap_slot-empty-requires-clause-last g c = front_there c.pass.inside.parts c.place_of-i.result c.args.object c.remove-slot.result
    (taken_at c.pass.inside.parts c.place_of-i.result c.args.object c.as_slice.result.now c.as_slice.ensures.value c.place_of-i.ensures c.remove-slot.result c.remove-slot.ensures.value)
    c.turn_by.new.seat c.turn_by.ensures.turned

pub end-requires : goal.end-requires
end-requires g c = was_empty c.pass.inside.parts c.place_of-i.result c.args.object c.remove-slot.result
    (taken_at c.pass.inside.parts c.place_of-i.result c.args.object c.as_slice.result.now c.as_slice.ensures.value c.place_of-i.ensures c.remove-slot.result c.remove-slot.ensures.value)
    c.turn_by.new.seat c.turn_by.ensures.turned c.swap_slot-empty.result c.swap_slot-empty.ensures.found

pub write_word-requires-clause-own : goal.write_word-requires-clause-own
write_word-requires-clause-own g c =
    let own = own_from c.pass.inside.parts c.args.pass.now c.pass.view_is c.args.self.now c.requires.own in
    c.swap_slot-empty.ensures.own.0 ∙ (c.turn_by.ensures.own.0 ∙ own.0)

pub write_word-requires-clause-word : goal.write_word-requires-clause-word
write_word-requires-clause-word g c =
    let own = own_from c.pass.inside.parts c.args.pass.now c.pass.view_is c.args.self.now c.requires.own in
    let taken = taken_at c.pass.inside.parts c.place_of-i.result c.args.object c.as_slice.result.now c.as_slice.ensures.value c.place_of-i.ensures c.remove-slot.result c.remove-slot.ensures.value in
    word_of c.pass.inside.parts c.args.self.now own.1 c.remove-slot.result.object taken.within

pub write_word-requires-clause-rule : goal.write_word-requires-clause-rule
write_word-requires-clause-rule g c =
    let taken = taken_at c.pass.inside.parts c.place_of-i.result c.args.object c.as_slice.result.now c.as_slice.ensures.value c.place_of-i.ensures c.remove-slot.result c.remove-slot.ensures.value in
    let may = view_from c.pass.inside.parts c.args.pass.now c.pass.view_is (λ v. MayRelease g.W.World.lawful g.W.World.answers g.W.World.refers v c.args.object) c.requires.rule in
    let r = ready c.pass.inside.parts c.place_of-i.result c.args.object c.remove-slot.result taken c.turn_by.new.seat c.turn_by.ensures.turned c.swap_slot-empty.new.seat c.new-boxed.result c.turn_by.ensures.own.2 c.swap_slot-empty.ensures.after c.requires.known.0 (held_still c.pass.inside.parts c.args.pass.now c.pass.view_is c.args.object c.requires.known.0 c.requires.known.1)
    g.W.World.lawful g.W.World.answers g.W.World.refers c.new-boxed.ensures (shown_still c.pass.inside.parts c.args.pass.now c.pass.view_is c.args.object c.requires.known.0 c.requires.known.2) may in releases _ _ _ _ _ _ _ _ record { taken = g.W.World.taken; answers_stay = g.W.World.answers_stay; follows_keeps = g.W.World.follows_keeps; refers_stay = g.W.World.refers_stay; refers_new = g.W.World.refers_new; refers_held = g.W.World.refers_held } _ _ _ c.swap_slot-empty.new.seat.me c.remove-slot.result.object c.requires.known.0 (rest c.turn_by.new.seat.me.1) r.live r.slots r.holds r.rule

pub turn_by-requires-2 : goal.turn_by-requires-2
turn_by-requires-2 g c = record {
  few = may_turn_behind c.pass.inside.parts c.place_of-i.result c.args.object c.remove-slot.result
      (taken_at c.pass.inside.parts c.place_of-i.result c.args.object c.as_slice.result.now c.as_slice.ensures.value c.place_of-i.ensures c.remove-slot.result c.remove-slot.ensures.value) c.requires.known.0 c.write_word.new.seat c.write_word.new.seat
      (gone_from c.pass.inside.parts c.place_of-i.result c.args.object c.remove-slot.result
      (taken_at c.pass.inside.parts c.place_of-i.result c.args.object c.as_slice.result.now c.as_slice.ensures.value c.place_of-i.ensures c.remove-slot.result c.remove-slot.ensures.value)
      c.turn_by.new.seat c.turn_by.ensures.turned c.swap_slot-empty.new.seat c.new-boxed.result c.turn_by.ensures.own.2 c.swap_slot-empty.ensures.after c.requires.known.0 (held_still c.pass.inside.parts c.args.pass.now c.pass.view_is c.args.object c.requires.known.0 c.requires.known.1) c.write_word.new.seat c.write_word.ensures.told.0) refl
      (c.len.result - c.place_of-i.result)
      (behind_is c.pass.inside.parts c.place_of-i.result c.args.object c.remove-slot.result
      (taken_at c.pass.inside.parts c.place_of-i.result c.args.object c.as_slice.result.now c.as_slice.ensures.value c.place_of-i.ensures c.remove-slot.result c.remove-slot.ensures.value)
      c.len.result (vec_len c.remove-slot.new.self) c.len.ensures c.remove-slot.ensures.len);
}

pub invariant_of-parts : goal.invariant_of-parts
invariant_of-parts g c =
    let taken = (taken_at c.pass.inside.parts c.place_of-i.result c.args.object c.as_slice.result.now c.as_slice.ensures.value c.place_of-i.ensures c.remove-slot.result c.remove-slot.ensures.value) in
    let f = fields_after c.pass.inside.parts c.place_of-i.result c.args.object c.remove-slot.result taken c.requires.known.0 c.write_word.new.seat c.turn_by-2.new.seat
    (gone_from c.pass.inside.parts c.place_of-i.result c.args.object c.remove-slot.result taken c.turn_by.new.seat c.turn_by.ensures.turned c.swap_slot-empty.new.seat c.new-boxed.result c.turn_by.ensures.own.2 c.swap_slot-empty.ensures.after c.requires.known.0 (held_still c.pass.inside.parts c.args.pass.now c.pass.view_is c.args.object c.requires.known.0 c.requires.known.1) c.write_word.new.seat c.write_word.ensures.told.0) c.turn_by-2.ensures.own.2
    (c.len.result - c.place_of-i.result) c.remove-slot.new.self.items (behind_is c.pass.inside.parts c.place_of-i.result c.args.object c.remove-slot.result taken c.len.result (vec_len c.remove-slot.new.self) c.len.ensures c.remove-slot.ensures.len) c.turn_by-2.ensures.turned c.remove-slot.ensures.items in
    record { numbers = f.numbers; out = f.out; holding = f.holding; once = f.once; all = f.all; room = room_stays c.pass.inside.parts c.remove-slot.new.self.cap c.remove-slot.ensures.capacity }

pub returns-clause-did : goal.returns-clause-did
returns-clause-did g c =
    let taken = (taken_at c.pass.inside.parts c.place_of-i.result c.args.object c.as_slice.result.now c.as_slice.ensures.value c.place_of-i.ensures c.remove-slot.result c.remove-slot.ensures.value) in
    let d = did_release c.pass.inside.parts c.place_of-i.result c.args.object c.remove-slot.result taken c.requires.known.0 c.write_word.new.seat c.turn_by-2.new.seat
    (gone_from c.pass.inside.parts c.place_of-i.result c.args.object c.remove-slot.result taken c.turn_by.new.seat c.turn_by.ensures.turned c.swap_slot-empty.new.seat c.new-boxed.result c.turn_by.ensures.own.2 c.swap_slot-empty.ensures.after c.requires.known.0 (held_still c.pass.inside.parts c.args.pass.now c.pass.view_is c.args.object c.requires.known.0 c.requires.known.1) c.write_word.new.seat c.write_word.ensures.told.0) c.turn_by-2.ensures.own.2
    c.args.pass.now c.remove-slot.new.self.items (vec_len c.remove-slot.new.self) c.pass.view_is (held_still c.pass.inside.parts c.args.pass.now c.pass.view_is c.args.object c.requires.known.0 c.requires.known.1) c.remove-slot.ensures.items c.remove-slot.new.self.ok.0 c.remove-slot.ensures.len in
    record { holding = d.at; held = d.held; view = d.now; values = d.vals; gave = record { lacks = d.lacks; others = d.others; count = d.less } }

pub returns-clause-own : goal.returns-clause-own
returns-clause-own g c = own_after c.pass.inside.parts c.args.pass.now c.pass.view_is c.args.self.now c.turn_by-2.new.seat c.requires.own
    (same_seat c.pass.inside.parts.seat c.write_word.new.seat c.turn_by-2.new.seat
    (same_seat c.pass.inside.parts.seat c.swap_slot-empty.new.seat c.write_word.new.seat
    (same_seat c.pass.inside.parts.seat c.turn_by.new.seat c.swap_slot-empty.new.seat (c.turn_by.ensures.own.0, c.turn_by.ensures.own.1) (c.swap_slot-empty.ensures.own.0, c.swap_slot-empty.ensures.own.1))
    (c.write_word.ensures.own.0, c.write_word.ensures.own.1))
    (c.turn_by-2.ensures.own.0, c.turn_by-2.ensures.own.1))
    (terms_after c.pass.inside.parts c.place_of-i.result c.args.object c.remove-slot.result
    (taken_at c.pass.inside.parts c.place_of-i.result c.args.object c.as_slice.result.now c.as_slice.ensures.value c.place_of-i.ensures c.remove-slot.result c.remove-slot.ensures.value) c.requires.known.0 c.write_word.new.seat c.turn_by-2.new.seat
    (gone_from c.pass.inside.parts c.place_of-i.result c.args.object c.remove-slot.result
    (taken_at c.pass.inside.parts c.place_of-i.result c.args.object c.as_slice.result.now c.as_slice.ensures.value c.place_of-i.ensures c.remove-slot.result c.remove-slot.ensures.value)
    c.turn_by.new.seat c.turn_by.ensures.turned c.swap_slot-empty.new.seat c.new-boxed.result c.turn_by.ensures.own.2 c.swap_slot-empty.ensures.after c.requires.known.0 (held_still c.pass.inside.parts c.args.pass.now c.pass.view_is c.args.object c.requires.known.0 c.requires.known.1) c.write_word.new.seat c.write_word.ensures.told.0)
    c.turn_by-2.ensures.own.2)

pub overflow_sub-rest : goal.overflow_sub-rest
overflow_sub-rest g c = no_less c.pass.inside.parts c.place_of-i.result c.args.object c.remove-slot.result
    (taken_at c.pass.inside.parts c.place_of-i.result c.args.object c.as_slice.result.now c.as_slice.ensures.value c.place_of-i.ensures c.remove-slot.result c.remove-slot.ensures.value)
    c.len.result (vec_len c.remove-slot.new.self) c.len.ensures c.remove-slot.ensures.len

pub invariant_of-pass : goal.invariant_of-pass
invariant_of-pass g c = fitted_from g.W.World.lawful g.W.World.answers g.W.World.refers c.write_word.new.seat.me.0 c.turn_by-2.new.seat.me.0 c.turn_by-2.ensures.own.2 c.write_word.ensures.told.1

pub returns-clause-fits : goal.returns-clause-fits
returns-clause-fits g c = fitted_from g.W.World.lawful g.W.World.answers g.W.World.refers c.write_word.new.seat.me.0 c.turn_by-2.new.seat.me.0 c.turn_by-2.ensures.own.2 c.write_word.ensures.told.1
