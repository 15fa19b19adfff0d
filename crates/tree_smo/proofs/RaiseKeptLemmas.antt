-- What is in hand once a root was raised, and its partition kept up.
use Rattle.std.proofs.Common.{◌≡◌, ◌≢◌, ℕ, List, ◌∷◌, sym, ap, subst, ◌∙◌, arith, Some, None, ◌<◌}
use Rattle.std.specs.List.{AllByRecursion}
use Rattle.latch_space.specs.Passes.{view, count}
use Rattle.index_law.specs.Shape.{Shape}
use Rattle.forest_law.specs.declared.objects.Frame.{Frame}
use Rattle.forest_law.specs.Numbers.{part_id, frame_id}
use Rattle.forest_law.specs.HashSteps.{KeepsHashing}
use Rattle.hash_law.specs.Blocks.{part_for}
use Rattle.forest_world.specs.Held.{TreePass, shape_of_pass, HasFrame}
use Rattle.hash_maintain.specs.Moves.{first_hashed}
use Rattle.hash_maintain.specs.Upkeep.{AreInPlace}
use Rattle.tree_restructure.specs.Raises.{RaisesFrame}
use Rattle.buffer_pool.specs.Parts.{part_of_index, part_ids}
use Rattle.tree_smo.specs.Remakes.{Remakes}
use Rattle.tree_smo.specs.Keeping.{HasMovedRows, KeepsPart, KeepsMovedRows}
use Rattle.tree_smo.specs.PartHeld.{HoldsExactIf}
use Rattle.tree_smo.specs.Storeys.{storeys_ids, RaisesStoreys, ChangesStoreys, HoldsStoreys}
use Rattle.tree_smo.proofs.ChangedLemmas.{first_tells}
use Rattle.tree_smo.proofs.KeepingLemmas.{place_remade, exact_remade}
use Rattle.tree_smo.proofs.MovedLemmas.{raise_moves, rehashed_raise}
use Rattle.tree_smo.proofs.PartHeldLemmas.{known_tidy, suits, in_place_known, exact_part}
use Rattle.tree_smo.proofs.RemakeLemmas.{same_shape, remakes_weaker, remakes_both}
use Rattle.tree_smo.proofs.RisingLemmas.{RaiseCall, apart, has_top, has_low}

-- both frames in hand once the root was raised, and the partition kept up
pub record RaisesKept (p : TreePass) (i b under : ℕ) (c : RaiseCall p i b under) (q : TreePass)
    : Type 0 where
  pub top : Frame
  pub low : Frame
  pub has_top : HasFrame q b c.held.can.root top
  pub has_low : HasFrame q under c.held.fresh low
  pub raises : RaisesFrame c.held.can.root top c.held.fresh low
  pub remakes : Remakes p q
      (frame_id (shape_of_pass p) b ∷ frame_id (shape_of_pass p) under
      ∷ part_ids (shape_of_pass p) c.part)
  pub unhashed : c.held.can.root.hashed ≡ None
      → KeepsHashing c.held.can.root top × KeepsHashing c.held.fresh low
  pub hashed : (j : ℕ) → c.held.can.root.hashed ≡ Some j → (x : Frame) × (y : Frame)
      × KeepsPart (shape_of_pass p) q j b under c.held.can.root x top c.held.fresh y low

module _ {p : TreePass} {i b under : ℕ} (c : RaiseCall p i b under) where
  abbrev h : HoldsStoreys (view p) i b under
  h = c.held

  abbrev root : Frame
  root = h.can.root

  abbrev held_ids : Shape → List ℕ
  held_ids s = frame_id s b ∷ frame_id s under ∷ part_ids s c.part

  pub part_is : c.part ≡ part_of_index (shape_of_pass p) root.hashed
  part_is = c.holds.named root h.can.knows_root

  pub some_parts : 0 < (shape_of_pass p).parts
  some_parts = (suits p c.fitted).parts

  module _ (m0 : TreePass) (changes : ChangesStoreys p b under m0) where
    pub raised : RaisesStoreys p b under root h.fresh m0
    raised = changes root h.fresh (has_top c) (has_low c)

    pub shapes : shape_of_pass p ≡ shape_of_pass m0
    shapes = same_shape p m0 (storeys_ids (shape_of_pass p) b under) raised.remakes

    pub no_part : (k : ℕ) → k < (shape_of_pass p).parts
        → AllByRecursion (λ (j : ℕ). part_id (shape_of_pass p) k ≢ j)
        (storeys_ids (shape_of_pass p) b under)
    no_part k below = ((λ e. omega (arith, below, e)), ((λ e. omega (arith, below, e)), tt))

    pub tells : first_hashed raised.top raised.low ≡ root.hashed
    tells = first_tells root raised.top h.fresh raised.low raised.hash.0 raised.hash.1
        h.blank.hashed

    -- rows moved between both frames
    abbrev pub raised_rows : HasMovedRows m0 b under
    raised_rows = record {
      index = raised.raises.page.head.index;
      fields = raised.raises.page.head.fields;
      gave_old = root;
      gave_new = raised.top;
      took_old = h.fresh;
      took_new = raised.low;
      gave = raised.has_top;
      took = raised.has_low;
      apart = λ e. apart c (sym e);
      moves = raise_moves c.laws.covered root raised.top h.fresh raised.low raised.raises
          raised.hash.0 raised.hash.1 h.blank.hashed;
      tidy = known_tidy p c.fitted b root h.can.knows_root;
      took_tidy = known_tidy p c.fitted under h.fresh h.knows;
      part = λ j found. exact_remade p m0 (storeys_ids (shape_of_pass p) b under) raised.remakes j b
          under root h.fresh
          (no_part (part_for (shape_of_pass p).parts j) (omega (arith, some_parts)))
          (exact_part p c.known j b under root h.fresh h.can.knows_root h.knows
          (subst (HoldsExactIf (view p))
          (part_is ∙ ap (part_of_index (shape_of_pass p)) (sym tells ∙ found)) c.holds.held));
    }

    pub in_place : AreInPlace m0
    in_place = place_remade p m0 (storeys_ids (shape_of_pass p) b under) raised.remakes no_part
        (in_place_known p c.fitted c.known)

    pub same_count : count m0 ≡ count p
    same_count = raised.remakes.same_count

    module _ (m1 : TreePass)
        (keeps : (m : HasMovedRows m0 b under) → KeepsMovedRows m0 b under m m1) where
      kept : KeepsMovedRows m0 b under raised_rows m1
      kept = keeps raised_rows

      kept_remakes : Remakes m0 m1 (held_ids (shape_of_pass m0))
      kept_remakes = subst
          (λ o. Remakes m0 m1 (frame_id (shape_of_pass m0) b ∷ frame_id (shape_of_pass m0) under
          ∷ part_ids (shape_of_pass m0) o))
          ((λ j. part_of_index (sym shapes j) (tells j)) ∙ sym part_is) kept.remakes

      pub raises_kept : RaisesKept p i b under c m1
      raises_kept = record {
        top = kept.gave_now;
        low = kept.took_now;
        has_top = kept.gave;
        has_low = kept.took;
        raises = rehashed_raise root raised.top kept.gave_now h.fresh raised.low kept.took_now
            raised.raises kept.gave_rest kept.took_rest;
        remakes = remakes_both p m0 m1 held_ids
            (remakes_weaker p m0 (storeys_ids (shape_of_pass p) b under) (held_ids (shape_of_pass p))
            (λ k a. (a.0, (a.1.0, tt))) raised.remakes) kept_remakes;
        unhashed = λ none. (let same = kept.unhashed (tells ∙ none) in (
          subst (KeepsHashing root) (sym same.0) raised.hash.0,
          subst (KeepsHashing h.fresh) (sym same.1) raised.hash.1,
        ));
        hashed = λ j is. (
          raised.top,
          raised.low,
          subst
              (λ (s : Shape). KeepsPart s m1 j b under root raised.top kept.gave_now h.fresh
              raised.low kept.took_now) (sym shapes) (kept.hashed j (tells ∙ is)),
        );
      }
