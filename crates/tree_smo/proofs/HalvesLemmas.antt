-- The frames of a parent and of two halves, out of their places and back.
use Rattle.std.proofs.Common.{◌≡◌, ◌≢◌, ℕ, List, inl, inr, sym, ap, subst, ◌∙◌, refl}
use Rattle.key_tuple.specs.Order.{FieldList}
use Rattle.tree_restructure.specs.SplitCalls.{SplitsUnder}
use Rattle.call_law.specs.Spoken.{View}
use Rattle.std.proofs.lemmas.Bool.{cases_eq}
use Rattle.latch_space.specs.Has.{IsKnown}
use Rattle.index_law.specs.Shape.{Shape}
use Rattle.forest_law.specs.declared.objects.Frame.{Frame}
use Rattle.forest_law.specs.declared.objects.Object.TheVariants as object
use Rattle.forest_law.specs.Numbers.{frame_id}
use Rattle.forest_law.specs.HashSteps.{KeepsHashing}
use Rattle.forest_world.specs.Held.{TreePass, shape_of_pass}
use Rattle.buffer_pool.specs.Frames.{TakesOut, PutsBack}
use Rattle.buffer_pool.specs.Hands.{HoldsFrame, IsAmong}
use Rattle.tree_smo.specs.declared.halves.SplitBlocks.{SplitBlocks}
use Rattle.tree_smo.specs.declared.halves.SplitHands.{SplitHands}
use Rattle.tree_smo.specs.Halves.{halves_ids, AreThree, HasHalves, HoldsHalves, TakesHalvesOut, PutsHalvesBack, ChangesHalves}
use Rattle.tree_smo.specs.Remakes.{Remakes, IsAsBefore}
use Rattle.tree_smo.proofs.RemakeLemmas.{remakes_out, remakes_back, remakes_among, remakes_both, known_remade, shows_known}

module _ (at : SplitBlocks) where
  abbrev ids : Shape → List ℕ
  ids shape = halves_ids shape at

  up_among : (shape : Shape) → IsAmong (frame_id shape at.parent) (ids shape)
  up_among shape apart = apart.0 refl

  left_among : (shape : Shape) → IsAmong (frame_id shape at.child) (ids shape)
  left_among shape apart = apart.1.0 refl

  right_among : (shape : Shape) → IsAmong (frame_id shape at.right) (ids shape)
  right_among shape apart = apart.1.1.0 refl

  -- the parent's frame was taken out, and then the left one's and the right one's
  module _ (p q r s : TreePass) (three : AreThree at) (up left right : Frame)
      (first : TakesOut p at.parent up q) (second : TakesOut q at.child left r)
      (third : TakesOut r at.right right s) where
    pub takes_out_three : TakesHalvesOut p at (record { left = left; right = right; up = up }) s
    takes_out_three = record {
      out = λ was has. (
          let a = first.out was.up was.up has.up in
          let b = second.out was.left was.left
          (first.hand.frames at.child was.left was.left three.child has.left) in
          let c = third.out was.right was.right
          (second.hand.frames at.right was.right was.right three.halves
          (first.hand.frames at.right was.right was.right three.right has.right)) in (
            record {
              up = third.hand.outs at.parent was.up (λ e. three.right (sym e))
                  (second.hand.outs at.parent was.up (λ e. three.child (sym e)) a.0);
              left = third.hand.outs at.child was.left (λ e. three.halves (sym e)) b.0;
              right = c.0;
            },
            λ i. record { left = b.1 i; right = c.1 i; up = a.1 i },
          )
          );
      remakes = remakes_both p r s ids
          (remakes_both p q r ids
          (remakes_among p q (frame_id (shape_of_pass p) at.parent) (ids (shape_of_pass p))
          (up_among (shape_of_pass p)) (remakes_out p q at.parent up first))
          (remakes_among q r (frame_id (shape_of_pass q) at.child) (ids (shape_of_pass q))
          (left_among (shape_of_pass q)) (remakes_out q r at.child left second)))
          (remakes_among r s (frame_id (shape_of_pass r) at.right) (ids (shape_of_pass r))
          (right_among (shape_of_pass r)) (remakes_out r s at.right right third));
    }

  -- the second and the third are in hand when they are taken out
  pub second_held : (p q : TreePass) (held : HoldsHalves p at) (up : Frame)
      → TakesOut p at.parent up q → HoldsFrame q at.child
  second_held p q held up first = let was = held.was.left in
      (was, was, first.hand.frames at.child was was held.three.child held.has.left)

  pub third_held : (p q r : TreePass) (held : HoldsHalves p at) (up left : Frame)
      → TakesOut p at.parent up q → TakesOut q at.child left r → HoldsFrame r at.right
  third_held p q r held up left first second = let was = held.was.right in (
    was,
    was,
    second.hand.frames at.right was was held.three.halves
        (first.hand.frames at.right was was held.three.right held.has.right),
  )

  -- and they were put back
  module _ (p q r s : TreePass) (three : AreThree at) (hands : SplitHands)
      (first : PutsBack p at.parent hands.up q) (second : PutsBack q at.child hands.left r)
      (third : PutsBack r at.right hands.right s) where
    pub puts_back_three : PutsHalvesBack p at hands s
    puts_back_three = record {
      has = λ was out. record {
        up = third.hand.frames at.parent was.up hands.up (λ e. three.right (sym e))
            (second.hand.frames at.parent was.up hands.up (λ e. three.child (sym e))
            (first.has was.up out.up));
        left = third.hand.frames at.child was.left hands.left (λ e. three.halves (sym e))
            (second.has was.left (first.hand.outs at.child was.left three.child out.left));
        right = third.has was.right (second.hand.outs at.right was.right three.halves
            (first.hand.outs at.right was.right three.right out.right));
      };
      remakes = remakes_both p r s ids
          (remakes_both p q r ids
          (remakes_among p q (frame_id (shape_of_pass p) at.parent) (ids (shape_of_pass p))
          (up_among (shape_of_pass p)) (remakes_back p q at.parent hands.up first))
          (remakes_among q r (frame_id (shape_of_pass q) at.child) (ids (shape_of_pass q))
          (left_among (shape_of_pass q)) (remakes_back q r at.child hands.left second)))
          (remakes_among r s (frame_id (shape_of_pass r) at.right) (ids (shape_of_pass r))
          (right_among (shape_of_pass r)) (remakes_back r s at.right hands.right third));
    }

  -- where they are as they were known, all is as before
  module _ (p q : TreePass) (known : IsKnown p)
      (remakes : Remakes p q (ids (shape_of_pass p))) (was : SplitHands)
      (has : HasHalves q at was was) (same : shape_of_pass q ≡ shape_of_pass p) where
    all_known : IsKnown q
    all_known j h held = elim (cases_eq j (frame_id (shape_of_pass q) at.parent)) [
      | inl e ↦ shows_known q (frame_id (shape_of_pass q) at.parent) (object.Frame was.up) has.up
          j h e held
      | inr up ↦ elim (cases_eq j (frame_id (shape_of_pass q) at.child)) [
        | inl e ↦ shows_known q (frame_id (shape_of_pass q) at.child) (object.Frame was.left)
            has.left j h e held
        | inr left ↦ elim (cases_eq j (frame_id (shape_of_pass q) at.right)) [
          | inl e ↦ shows_known q (frame_id (shape_of_pass q) at.right) (object.Frame was.right)
              has.right j h e held
          | inr right ↦ known_remade p q (ids (shape_of_pass p)) remakes known j h
              (moved at.parent up, (moved at.child left, (moved at.right right, tt))) held
        ]
      ]
    ]
      where
        moved : (b : ℕ) → j ≢ frame_id (shape_of_pass q) b → j ≢ frame_id (shape_of_pass p) b
        moved b ne e = ne (e ∙ ap (λ (s : Shape). frame_id s b) (sym same))

    pub as_before : IsAsBefore p q
    as_before = assumption all_known

-- what came back after a split, or after none
module _ (at : SplitBlocks) (p q r : TreePass) (hands new : SplitHands)
    (out : TakesHalvesOut p at hands q) (back : PutsHalvesBack q at new r) where
  both_ways : Remakes p r (ids at (shape_of_pass p))
  both_ways = remakes_both p q r (ids at) out.remakes back.remakes

  pub halves_split : (key : FieldList)
      → SplitsUnder hands.left new.left hands.right new.right hands.up new.up key
      → KeepsHashing hands.left new.left × KeepsHashing hands.right new.right
      → ChangesHalves p at key r
  halves_split key splits hash was has = let o = out.out was has in record {
    now = new;
    has = back.has was o.0;
    splits = subst
        (λ (h : SplitHands). SplitsUnder h.left new.left h.right new.right h.up new.up key)
        o.1 splits;
    hash = subst
        (λ (h : SplitHands). KeepsHashing h.left new.left × KeepsHashing h.right new.right) o.1 hash;
    remakes = both_ways;
  }

  pub halves_kept : IsKnown p → HoldsHalves p at → new ≡ hands → IsAsBefore p r
  halves_kept known held same = let o = out.out held.was held.has in
      as_before at p r known both_ways held.was
      (subst (HasHalves r at held.was) (same ∙ o.1) (back.has held.was o.0))
      (ap (λ (v : View). v.terms.shape) (back.remakes.same_view ∙ out.remakes.same_view))
