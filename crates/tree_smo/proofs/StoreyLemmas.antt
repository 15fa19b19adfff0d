-- The frames of a root and of a new page, out of their places and back.
use Rattle.std.proofs.Common.{◌≡◌, ◌≢◌, ℕ, List, inl, inr, sym, ap, subst, ◌∙◌, refl}
use Rattle.std.proofs.lemmas.Bool.{cases_eq}
use Rattle.latch_space.specs.Has.{IsKnown}
use Rattle.index_law.specs.Shape.{Shape}
use Rattle.forest_law.specs.declared.objects.Frame.{Frame}
use Rattle.forest_law.specs.declared.objects.Object.TheVariants as object
use Rattle.forest_law.specs.HashSteps.{KeepsHashing}
use Rattle.forest_law.specs.Numbers.{frame_id}
use Rattle.forest_world.specs.Held.{TreePass, shape_of_pass, HasFrame}
use Rattle.tree_restructure.specs.Raises.{SuitsRaiseFrames, RaisesFrame}
use Rattle.call_law.specs.Spoken.{View}
use Rattle.buffer_pool.specs.Frames.{TakesOut, PutsBack}
use Rattle.buffer_pool.specs.Hands.{HoldsFrame, HasOut}
use Rattle.tree_smo.specs.Remakes.{Remakes, IsAsBefore}
use Rattle.tree_smo.specs.Storeys.{storeys_ids, SuitsStoreys, ChangesStoreys}
use Rattle.tree_smo.proofs.RemakeLemmas.{remakes_out, remakes_back, remakes_among, remakes_both, known_remade, shows_known}

module _ (root under : ℕ) (apart : under ≢ root) where
  abbrev ids : Shape → List ℕ
  ids shape = storeys_ids shape root under

  module _ (p q r : TreePass) (top low : Frame) (first : TakesOut p root top q) where
    -- the second frame is in hand when it is taken out
    pub low_held : (f : Frame) → HasFrame p under f f → HoldsFrame q under
    low_held f has = (f, f, first.hand.frames under f f apart has)

    module _ (second : TakesOut q under low r) where
      -- what came out
      pub top_out : (t : Frame) → HasFrame p root t t → HasOut r root t × (top ≡ t)
      top_out t has = let o = first.out t t has in
          (second.hand.outs root t (λ e. apart (sym e)) o.0, o.1)

      pub low_out : (f : Frame) → HasFrame p under f f → HasOut r under f × (low ≡ f)
      low_out f has = second.out f f (first.hand.frames under f f apart has)

      pub suits_out : (s : SuitsStoreys p root under) → SuitsRaiseFrames top low
      suits_out s = subst (λ x. SuitsRaiseFrames x low) (sym (top_out s.top s.has_top).1)
          (subst (λ x. SuitsRaiseFrames s.top x) (sym (low_out s.low s.has_low).1) s.suits)

      -- it is there to be put back
      pub low_back : (u : TreePass) (new : Frame) → PutsBack r root new u → (f : Frame)
          → HasFrame p under f f → HasOut u under f
      low_back u new back f has = back.hand.outs under f apart (low_out f has).0

      module _ (u v : TreePass) (new newer : Frame) (third : PutsBack r root new u)
          (fourth : PutsBack u under newer v) where
        pub came_back : Remakes p v (ids (shape_of_pass p))
        came_back = remakes_both p r v ids
            (remakes_both p q r ids
            (remakes_among p q (frame_id (shape_of_pass p) root) (ids (shape_of_pass p))
            (λ a. a.0 refl) (remakes_out p q root top first))
            (remakes_among q r (frame_id (shape_of_pass q) under) (ids (shape_of_pass q))
            (λ a. a.1.0 refl) (remakes_out q r under low second)))
            (remakes_both r u v ids
            (remakes_among r u (frame_id (shape_of_pass r) root) (ids (shape_of_pass r))
            (λ a. a.0 refl) (remakes_back r u root new third))
            (remakes_among u v (frame_id (shape_of_pass u) under) (ids (shape_of_pass u))
            (λ a. a.1.0 refl) (remakes_back u v under newer fourth)))

        pub top_in : (t : Frame) → HasFrame p root t t → HasFrame v root t new
        top_in t has = fourth.hand.frames root t new (λ e. apart (sym e))
            (third.has t (top_out t has).0)

        pub low_in : (f : Frame) → HasFrame p under f f → HasFrame v under f newer
        low_in f has = fourth.has f (low_back u new third f has)

        -- what came back after a raise
        pub storeys_raised : RaisesFrame top new low newer
            → KeepsHashing top new × KeepsHashing low newer → ChangesStoreys p root under v
        storeys_raised raises hash t b has_top has_low = record {
          top = new;
          low = newer;
          has_top = top_in t has_top;
          has_low = low_in b has_low;
          raises = subst (λ x. RaisesFrame x new b newer) (top_out t has_top).1
              (subst (λ x. RaisesFrame top new x newer) (low_out b has_low).1 raises);
          hash = (
            subst (λ x. KeepsHashing x new) (top_out t has_top).1 hash.0,
            subst (λ x. KeepsHashing x newer) (low_out b has_low).1 hash.1,
          );
          remakes = came_back;
        }

        -- or after none
        pub storeys_kept : IsKnown p → SuitsStoreys p root under → new ≡ top → newer ≡ low
            → IsAsBefore p v
        storeys_kept known s same same' = record {
          same_view = came_back.same_view;
          known = all_known;
          same_count = came_back.same_count;
        }
          where
            has_top : HasFrame v root s.top s.top
            has_top = subst (HasFrame v root s.top) (same ∙ (top_out s.top s.has_top).1)
                (top_in s.top s.has_top)

            has_low : HasFrame v under s.low s.low
            has_low = subst (HasFrame v under s.low) (same' ∙ (low_out s.low s.has_low).1)
                (low_in s.low s.has_low)

            shapes : shape_of_pass v ≡ shape_of_pass p
            shapes = ap (λ (z : View). z.terms.shape) came_back.same_view

            all_known : IsKnown v
            all_known j h held = elim (cases_eq j (frame_id (shape_of_pass v) root)) [
              | inl e ↦ shows_known v (frame_id (shape_of_pass v) root) (object.Frame s.top)
                  has_top j h e held
              | inr ne ↦ elim (cases_eq j (frame_id (shape_of_pass v) under)) [
                | inl e ↦ shows_known v (frame_id (shape_of_pass v) under) (object.Frame s.low)
                    has_low j h e held
                | inr ne' ↦ known_remade p v (ids (shape_of_pass p)) came_back known j h
                    (moved root ne, (moved under ne', tt)) held
              ]
            ]
              where
                moved : (b : ℕ) → j ≢ frame_id (shape_of_pass v) b
                    → j ≢ frame_id (shape_of_pass p) b
                moved b differ e = differ (e ∙ ap (λ (z : Shape). frame_id z b) (sym shapes))
