-- What is in hand once a planned split was made of it.
use Rattle.std.proofs.Common.{◌≡◌, ◌≢◌, ℕ, ◌<◌, ◌^◌, List, [], ◌∷◌, sym, ap, subst, ◌∙◌, refl, arith, Option, Some, None}
use Rattle.std.specs.List.{AllByRecursion}
use Rattle.latch_space.specs.Passes.{view, count}
use Rattle.hash_law.specs.Blocks.{part_for}
use Rattle.index_law.specs.Shape.{Shape}
use Rattle.forest_law.specs.declared.objects.Frame.{Frame}
use Rattle.forest_law.specs.declared.objects.Object.TheVariants as object
use Rattle.forest_law.specs.HashSteps.{KeepsHashing}
use Rattle.forest_law.specs.Numbers.{part_id, frame_id}
use Rattle.forest_world.specs.Held.{TreePass, shape_of_pass, HasFrame}
use Rattle.hash_maintain.specs.Moves.{first_hashed}
use Rattle.hash_upkeep.specs.Moves.{built_or}
use Rattle.hash_maintain.specs.Upkeep.{AreInPlace}
use Rattle.tree_restructure.specs.SplitCalls.{SplitsUnder}
use Rattle.call_law.specs.Hands.{KnowsFrame}
use Rattle.buffer_pool.specs.Pages.{HasTreePage}
use Rattle.buffer_pool.specs.Parts.{part_of_index, part_ids}
use Rattle.buffer_pool.proofs.CallLemmas.{frame_has}
use Rattle.tree_smo.specs.declared.halves.SplitBlocks.{SplitBlocks}
use Rattle.tree_smo.specs.declared.halves.SplitHands.{SplitHands}
use Rattle.tree_smo.specs.declared.plans.SplitPlan.{SplitPlan}
use Rattle.tree_smo.specs.Halves.{halves_ids, AreThree, HasHalves, SuitsHalves, SplitsHalves, ChangesHalves}
use Rattle.tree_smo.specs.Keeping.{HasMovedRows, KeepsPart, KeepsMovedRows}
use Rattle.tree_smo.specs.PartHeld.{HoldsExactIf, LawsOfMoves}
use Rattle.tree_smo.specs.Plans.{HoldsNext, HoldsPlan, blocks_of, more_ids, HasNext, RelinksBehind}
use Rattle.tree_smo.specs.Remakes.{Remakes}
use Rattle.tree_smo.proofs.LawfulLemmas.{outside_apart}
use Rattle.tree_smo.proofs.BehindLemmas.{HasRelinked}
use Rattle.tree_smo.proofs.KeepingLemmas.{frame_apart, place_remade, exact_remade}
use Rattle.tree_smo.proofs.MovedLemmas.{cut_moves, rehashed_cut}
use Rattle.tree_smo.proofs.PartHeldLemmas.{known_tidy, suits, in_place_known, exact_part}
use Rattle.tree_smo.proofs.PlanLemmas as plans
use Rattle.tree_smo.proofs.PlanLemmas.{SplitCall, three, frames_of_plan, taken, next_parent, next_child}
use Rattle.tree_smo.proofs.RemakeLemmas.{same_shape, has_remade, frame_remade, remakes_among, remakes_both, remakes_weaker}

-- the first of two frames of which the second isn't hashed tells
pub first_tells : (l m r n : Frame) → KeepsHashing l m → KeepsHashing r n → r.hashed ≡ None
    → first_hashed m n ≡ l.hashed
first_tells l m r n left right none =
    (λ i. built_or (left.hashed i) ((right.hashed ∙ none) i)) ∙ either l.hashed
  where
    either : (o : Option ℕ) → built_or o None ≡ o
    either None = refl
    either (Some i) = refl

-- how a block's partition is kept up with in hand, where it is hashed
pub record IsKeptUp (p q : TreePass) (at : SplitBlocks) (was now : SplitHands) : Type 0 where
  pub unhashed : was.left.hashed ≡ None
      → KeepsHashing was.left now.left × KeepsHashing was.right now.right
  pub hashed : (i : ℕ) → was.left.hashed ≡ Some i → (x : Frame) × (y : Frame)
      × KeepsPart (shape_of_pass p) q i at.child at.right was.left x now.left was.right y now.right

module _ (p : TreePass) (plan : SplitPlan) (right : ℕ) (c : SplitCall p plan right) where
  abbrev h : HoldsPlan (view p) plan
  h = c.held

  abbrev pub at : SplitBlocks
  at = blocks_of plan right

  abbrev pub was : SplitHands
  was = frames_of_plan p plan right c

  pub apart : AreThree at
  apart = three p plan right c

  has_was : HasHalves p at was was
  has_was = record {
    up = frame_has p c.known plan.parent h.can.up h.can.knows_up;
    left = frame_has p c.known plan.child h.can.low h.can.knows_low;
    right = frame_has p c.known right c.fresh c.knows;
  }

  -- the frames can be split at the planned cut
  pub suits_halves : (shape_of_pass p).pages < 2 ^ 32 → SuitsHalves p at plan.cut
  suits_halves few = record {
    held = record { three = apart; was = was; has = has_was };
    suits = plans.suits p plan right c few;
    taken = taken p plan right c;
  }

  -- the numbers of the frames and of the partition, where there is this page behind
  abbrev pub ids : Option ℕ → Shape → List ℕ
  ids o shape = frame_id shape plan.parent ∷ frame_id shape plan.child ∷ frame_id shape right
      ∷ more_ids shape o c.part

  pub some_parts : 0 < (shape_of_pass p).parts
  some_parts = (suits p c.fitted).parts

  pub part_is : c.part ≡ part_of_index (shape_of_pass p) h.can.low.hashed
  part_is = c.holds.named h.can.low h.can.knows_low

  -- no frame has the partition's number
  pub apart_part : (shape : Shape) → 0 < shape.parts → shape_of_pass p ≡ shape → (b : ℕ)
      → AllByRecursion (λ (j : ℕ). frame_id shape b ≢ j) (part_ids shape c.part)
  apart_part shape parts same b =
      subst (λ o. AllByRecursion (λ (j : ℕ). frame_id shape b ≢ j) (part_ids shape o))
      (sym (part_is ∙ ap (λ (s : Shape). part_of_index s h.can.low.hashed) same))
      (frame_apart shape b h.can.low.hashed parts)

  -- all frames in hand once they were split, and the partition kept up
  pub record SplitsKept (q : TreePass) : Type 0 where
    pub now : SplitHands
    pub has : HasHalves q at was now
    pub splits : SplitsUnder was.left now.left was.right now.right was.up now.up plan.cut.key.tuple
    pub remakes : Remakes p q (ids None (shape_of_pass p))
    pub kept : IsKeptUp p q at was now

  module _ (laws : LawsOfMoves) (m0 : TreePass)
      (changes : ChangesHalves p at plan.cut.key.tuple m0) where
    pub first : SplitsHalves p at plan.cut.key.tuple was m0
    first = changes was has_was

    shapes : shape_of_pass p ≡ shape_of_pass m0
    shapes = same_shape p m0 (halves_ids (shape_of_pass p) at) first.remakes

    pub no_part : (k : ℕ) → k < (shape_of_pass p).parts
        → AllByRecursion (λ (j : ℕ). part_id (shape_of_pass p) k ≢ j)
        (halves_ids (shape_of_pass p) at)
    no_part k below = (
      (λ e. omega (arith, below, e)),
      ((λ e. omega (arith, below, e)), ((λ e. omega (arith, below, e)), tt)),
    )

    pub tells : first_hashed first.now.left first.now.right ≡ h.can.low.hashed
    tells = first_tells h.can.low first.now.left c.fresh first.now.right first.hash.0 first.hash.1
        c.blank.hashed

    -- rows moved between the halves
    abbrev pub moved_rows : HasMovedRows m0 plan.child right
    moved_rows = record {
      index = first.splits.cut.page.head.index;
      fields = first.splits.cut.page.head.fields;
      gave_old = h.can.low;
      gave_new = first.now.left;
      took_old = c.fresh;
      took_new = first.now.right;
      gave = first.has.left;
      took = first.has.right;
      apart = λ e. apart.halves (sym e);
      moves = cut_moves laws.covered h.can.low first.now.left c.fresh first.now.right
          plan.cut.key.tuple first.splits.cut first.hash.0 first.hash.1 c.blank.hashed;
      tidy = known_tidy p c.fitted plan.child h.can.low h.can.knows_low;
      took_tidy = known_tidy p c.fitted right c.fresh c.knows;
      part = λ i found. exact_remade p m0 (halves_ids (shape_of_pass p) at) first.remakes i
          plan.child right h.can.low c.fresh
          (no_part (part_for (shape_of_pass p).parts i) (omega (arith, some_parts)))
          (exact_part p c.known i plan.child right h.can.low c.fresh h.can.knows_low c.knows
          (subst (HoldsExactIf (view p))
          (part_is ∙ ap (part_of_index (shape_of_pass p)) (sym tells ∙ found)) c.holds.held));
    }

    -- as much is held
    pub same_count : count m0 ≡ count p
    same_count = first.remakes.same_count

    -- and no partition is taken out
    pub in_place : AreInPlace m0
    in_place = place_remade p m0 (halves_ids (shape_of_pass p) at) first.remakes no_part
        (in_place_known p c.fitted c.known)

    module _ (m1 : TreePass)
        (keeps : (m : HasMovedRows m0 plan.child right) → KeepsMovedRows m0 plan.child right m m1)
      where
        kept : KeepsMovedRows m0 plan.child right moved_rows m1
        kept = keeps moved_rows

        abbrev keep_ids : Shape → List ℕ
        keep_ids shape = frame_id shape plan.child ∷ frame_id shape right ∷ part_ids shape c.part

        kept_remakes : Remakes m0 m1 (keep_ids (shape_of_pass m0))
        kept_remakes = subst
            (λ o. Remakes m0 m1 (frame_id (shape_of_pass m0) plan.child
            ∷ frame_id (shape_of_pass m0) right ∷ part_ids (shape_of_pass m0) o))
            ((λ i. part_of_index (sym shapes i) (tells i)) ∙ sym part_is) kept.remakes

        abbrev hands : SplitHands
        hands = record { left = kept.gave_now; right = kept.took_now; up = first.now.up }

        pub splits_kept : SplitsKept m1
        splits_kept = record {
          now = hands;
          has = record {
            up = frame_remade m0 m1 (keep_ids (shape_of_pass m0)) kept_remakes plan.parent h.can.up
                first.now.up (
                  (λ z. apart.child (omega (arith, z))),
                  (
                    (λ z. apart.right (omega (arith, z))),
                    apart_part (shape_of_pass m0)
                        (subst (λ (s : Shape). 0 < s.parts) shapes some_parts) shapes plan.parent,
                  ),
                ) first.has.up;
            left = kept.gave;
            right = kept.took;
          };
          splits = record {
            cut = rehashed_cut h.can.low first.now.left kept.gave_now c.fresh first.now.right
                kept.took_now plan.cut.key.tuple first.splits.cut kept.gave_rest kept.took_rest;
            pointer = first.splits.pointer;
          };
          remakes = remakes_both p m0 m1 (ids None)
              (remakes_weaker p m0 (halves_ids (shape_of_pass p) at) (ids None (shape_of_pass p))
              (λ j a. (a.0, (a.1.0, (a.1.1.0, tt)))) first.remakes)
              (remakes_weaker m0 m1 (keep_ids (shape_of_pass m0)) (ids None (shape_of_pass m0))
              (λ j a. (a.1.0, (a.1.1.0, a.1.1.1))) kept_remakes);
          kept = record {
            unhashed = λ none. (let same = kept.unhashed (tells ∙ none) in (
              subst (KeepsHashing h.can.low) (sym same.0) first.hash.0,
              subst (KeepsHashing c.fresh) (sym same.1) first.hash.1,
            ));
            hashed = λ i is. (
              first.now.left,
              first.now.right,
              subst
                  (λ (s : Shape). KeepsPart s m1 i plan.child right h.can.low first.now.left
                  kept.gave_now c.fresh first.now.right kept.took_now) (sym shapes)
                  (kept.hashed i (tells ∙ is)),
            );
          };
        }

  module _ (m1 : TreePass) (halves : SplitsKept m1) where
    -- the page behind is in another block than the three
    pub next_right : (b : ℕ) (f : Frame) → KnowsFrame (view p) b f
        → HasTreePage f plan.head.index h.can.level → right ≢ b
    next_right b f that tree = outside_apart (view p) right b plan.head.index h.can.level c.fresh f
        plan.head c.number c.knows c.blank that tree

    still_next : (b : ℕ)
        → (held : HoldsNext (view p) plan.head.index h.can.level (Some b) plan.head.next)
        → HasFrame m1 b held.0 held.0
    still_next b held = frame_remade p m1 (ids None (shape_of_pass p)) halves.remakes b
        held.0 held.0 (
          λ z. next_parent p plan right c b held (omega (arith, z)),
          (
            λ z. next_child p plan right c b held (omega (arith, z)),
            (
              λ z. next_right b held.0 held.1 held.2 (omega (arith, z)),
              apart_part (shape_of_pass p) some_parts refl b,
            ),
          ),
        ) (frame_has p c.known b held.0 held.1)

    pub next_in_hand : HasNext m1 plan.next
    next_in_hand = go plan.next h.next
      where
        go : (o : Option ℕ) → HoldsNext (view p) plan.head.index h.can.level o plan.head.next
            → HasNext m1 o
        go None held = tt
        go (Some b) held = (
          held.0,
          still_next b held,
          record { page = held.2.page; has = held.2.paged },
        )

    module _ (m : TreePass) where
      -- all frames in hand, after the page behind was linked
      pub record IsRemade (o : Option ℕ) : Type 0 where
        pub has : HasHalves m at was halves.now
        pub remakes : Remakes p m (ids o (shape_of_pass p))
        pub next : HasRelinked m plan.head.index h.can.level o plan.head.next c.number
        pub kept : IsKeptUp p m at was halves.now

      pub remade : (o : Option ℕ)
          → HoldsNext (view p) plan.head.index h.can.level o plan.head.next
          → RelinksBehind m1 o c.number m → IsRemade o
      remade None held same = record {
        has = subst (λ (z : TreePass). HasHalves z at was halves.now) (sym same) halves.has;
        remakes = subst (λ (z : TreePass). Remakes p z (ids None (shape_of_pass p))) (sym same)
            halves.remakes;
        next = held;
        kept = subst (λ (z : TreePass). IsKeptUp p z at was halves.now) (sym same) halves.kept;
      }
      remade (Some b) held relinks =
          let r = relinks held.0 (still_next b held) in
          let k = frame_id (shape_of_pass m1) b in
          let shapes : shape_of_pass p ≡ shape_of_pass m1 =
          same_shape p m1 (ids None (shape_of_pass p)) halves.remakes in
          record {
            has = record {
              up = frame_remade m1 m (k ∷ []) r.remakes plan.parent was.up halves.now.up
                  (λ z. next_parent p plan right c b held (omega (arith, z)), tt)
                  halves.has.up;
              left = frame_remade m1 m (k ∷ []) r.remakes plan.child was.left halves.now.left
                  (λ z. next_child p plan right c b held (omega (arith, z)), tt)
                  halves.has.left;
              right = frame_remade m1 m (k ∷ []) r.remakes right was.right halves.now.right
                  (λ z. next_right b held.0 held.1 held.2 (omega (arith, z)), tt)
                  halves.has.right;
            };
            remakes = remakes_both p m1 m (ids (Some b))
                (remakes_weaker p m1 (ids None (shape_of_pass p)) (ids (Some b) (shape_of_pass p))
                (λ j a. (a.0, (a.1.0, (a.1.1.0, a.1.1.1.1)))) halves.remakes)
                (remakes_among m1 m k (ids (Some b) (shape_of_pass m1)) (λ a. a.1.1.1.0 refl)
                r.remakes);
            next = (held.0, r.now, r.has, held.2, held.3, r.relinks);
            kept = record {
              unhashed = halves.kept.unhashed;
              hashed = λ i is. (let e = halves.kept.hashed i is in
                  let s = shape_of_pass p in let part = part_for s.parts i in (
                    e.0,
                    e.1,
                    record {
                      known = e.2.known;
                      now = e.2.now;
                      has = has_remade m1 m (k ∷ []) r.remakes (part_id s part) (
                        (λ z. (let same = ap (λ (y : Shape). frame_id y b) shapes in
                            let parts = some_parts in omega (arith, z, same, parts))),
                        tt,
                      ) (object.Part e.2.known) (object.Part e.2.now) e.2.has;
                      keeps = e.2.keeps;
                      apart = e.2.apart;
                      empty = e.2.empty;
                      gave = e.2.gave;
                      took = e.2.took;
                    },
                  ));
            };
          }
