-- The frames of a root and of its only child, out of their places and back.
use Rattle.std.proofs.Common.{◌≡◌, ◌≢◌, ℕ, inl, inr, sym, ap, subst, ◌∙◌}
use Rattle.std.proofs.lemmas.Bool.{cases_eq}
use Rattle.latch_space.specs.Has.{IsKnown}
use Rattle.index_law.specs.Shape.{Shape}
use Rattle.forest_law.specs.declared.objects.Frame.{Frame}
use Rattle.forest_law.specs.declared.objects.Object.TheVariants as object
use Rattle.forest_law.specs.HashSteps.{KeepsHashing}
use Rattle.forest_law.specs.Numbers.{frame_id}
use Rattle.forest_world.specs.Held.{TreePass, shape_of_pass, HasFrame}
use Rattle.tree_merging.specs.Lifts.{SuitsLiftFrames, LiftsFrame}
use Rattle.call_law.specs.Spoken.{View}
use Rattle.buffer_pool.specs.Frames.{TakesOut, PutsBack}
use Rattle.tree_smo.specs.Remakes.{Remakes, IsAsBefore}
use Rattle.tree_smo.specs.Storeys.{storeys_ids}
use Rattle.tree_smo.proofs.RemakeLemmas.{known_remade, shows_known}
use Rattle.buffer_pool.specs.Hands.{HasOut}
use Rattle.tree_smo.proofs.StoreyLemmas.{top_out, low_out, low_back, top_in, low_in, came_back}
use Rattle.tree_shrinking.specs.LiftHands.{SuitsSinking, SinksStoreys}

-- both frames were taken out of their places
pub record TakesBothOut (root child : ℕ) (p r : TreePass) (top low : Frame) : Type 0 where
  pub apart : child ≢ root
  pub between : TreePass
  pub first : TakesOut p root top between
  pub second : TakesOut between child low r

module _ {root child : ℕ} {p r : TreePass} {top low : Frame}
    (o : TakesBothOut root child p r top low) where
  -- as they were known
  pub top_was : (t : Frame) → HasFrame p root t t → HasOut r root t × (top ≡ t)
  top_was = top_out root child o.apart p o.between r top low o.first o.second

  low_was : (b : Frame) → HasFrame p child b b → HasOut r child b × (low ≡ b)
  low_was = low_out root child o.apart p o.between r top low o.first o.second

  -- what came out can be lifted
  pub suits_sinking : SuitsSinking p root child → SuitsLiftFrames top low
  suits_sinking s = subst (λ x. SuitsLiftFrames x low) (sym (top_was s.top s.has_top).1)
      (subst (λ x. SuitsLiftFrames s.top x) (sym (low_was s.low s.has_low).1) s.suits)

  -- the second one can be put back behind the first
  pub low_there : (u : TreePass) (new : Frame) → PutsBack r root new u → (b : Frame)
      → HasFrame p child b b → HasOut u child b
  low_there = low_back root child o.apart p o.between r top low o.first o.second

  module _ (u v : TreePass) (new newer : Frame) (third : PutsBack r root new u)
      (fourth : PutsBack u child newer v) where
    back : Remakes p v (storeys_ids (shape_of_pass p) root child)
    back = came_back root child o.apart p o.between r top low o.first o.second u v new newer third
        fourth

    top_now : (t : Frame) → HasFrame p root t t → HasFrame v root t new
    top_now = top_in root child o.apart p o.between r top low o.first o.second u v new newer third
        fourth

    low_now : (b : Frame) → HasFrame p child b b → HasFrame v child b newer
    low_now = low_in root child o.apart p o.between r top low o.first o.second u v new newer third
        fourth

    -- what came back after a lift
    pub storeys_sunk : KeepsHashing top new × KeepsHashing low newer
        → LiftsFrame top new low newer → SinksStoreys p root child v
    storeys_sunk hash lifts t b has_top has_low = record {
      top = new;
      low = newer;
      has_top = top_now t has_top;
      has_low = low_now b has_low;
      lifts = subst (λ x. LiftsFrame x new b newer) (top_was t has_top).1
          (subst (λ x. LiftsFrame top new x newer) (low_was b has_low).1 lifts);
      top_hash = subst (λ x. KeepsHashing x new) (top_was t has_top).1 hash.0;
      low_hash = subst (λ x. KeepsHashing x newer) (low_was b has_low).1 hash.1;
      remakes = back;
    }

    -- or after none
    pub sinking_kept : IsKnown p → SuitsSinking p root child → new ≡ top → newer ≡ low
        → IsAsBefore p v
    sinking_kept known s same same' = record {
      same_view = back.same_view;
      known = all_known;
      same_count = back.same_count;
    }
      where
        has_top : HasFrame v root s.top s.top
        has_top = subst (HasFrame v root s.top) (same ∙ (top_was s.top s.has_top).1)
            (top_now s.top s.has_top)

        has_low : HasFrame v child s.low s.low
        has_low = subst (HasFrame v child s.low) (same' ∙ (low_was s.low s.has_low).1)
            (low_now s.low s.has_low)

        shapes : shape_of_pass v ≡ shape_of_pass p
        shapes = ap (λ (z : View). z.terms.shape) back.same_view

        all_known : IsKnown v
        all_known j h held = elim (cases_eq j (frame_id (shape_of_pass v) root)) [
          | inl e ↦ shows_known v (frame_id (shape_of_pass v) root) (object.Frame s.top)
              has_top j h e held
          | inr ne ↦ elim (cases_eq j (frame_id (shape_of_pass v) child)) [
            | inl e ↦ shows_known v (frame_id (shape_of_pass v) child) (object.Frame s.low)
                has_low j h e held
            | inr ne' ↦ known_remade p v (storeys_ids (shape_of_pass p) root child) back known j h
                (moved root ne, (moved child ne', tt)) held
          ]
        ]
          where
            moved : (b : ℕ) → j ≢ frame_id (shape_of_pass v) b
                → j ≢ frame_id (shape_of_pass p) b
            moved b differ e = differ (e ∙ ap (λ (z : Shape). frame_id z b) (sym shapes))
