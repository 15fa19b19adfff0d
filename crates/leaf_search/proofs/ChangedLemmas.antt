-- A frame in hand has changed, and perhaps one object more, and all that is at rest: it is known once
-- it is settled.
use Rattle.std.proofs.Common.{◌≡◌, ◌≢◌, inl, inr, ℕ, [], ◌∷◌, sym, ap, subst, ◌∙◌, None}
use Rattle.std.proofs.lemmas.Bool.{cases_eq}
use lib.ListN.{get_elem?}
use Rattle.latch_law.specs.declared.knows.Holding.{Holding}
use Rattle.latch_law.specs.Rule.{Holds}
use Rattle.latch_law.specs.Views.{holding, learnt, settling}
use Rattle.latch_law.proofs.Lists.{learnt_some}
use Rattle.latch_space.specs.Has.{IsKnown, DidSettle}
use Rattle.latch_space.specs.Passes.{view, values, known_values, count, Shows}
use Rattle.latch_space.proofs.Pointwise.{learnt_known}
use Rattle.index_law.specs.Shape.{Shape}
use Rattle.forest_law.specs.declared.objects.Frame.{Frame}
use Rattle.forest_law.specs.declared.objects.Object.{Object}
use Rattle.forest_law.specs.declared.objects.Object.TheVariants as object
use Rattle.forest_law.specs.Law.{Follows}
use Rattle.forest_law.specs.Numbers.{frame_id}
use Rattle.forest_law.specs.Steps.{FrameRests, Rests}
use Rattle.forest_law.proofs.RowStepLemmas.{row_changes_follow}
use Rattle.forest_world.specs.Held.{TreePass, shape_of_pass, HasFrame, RestsBeyond}
use Rattle.forest_world.specs.HandLaws.{StepsInHand}
use Rattle.forest_world.specs.HashHands.{HandKeepsHash}
use Rattle.forest_world.proofs.HandLemmas.{hands_make_steps, rests_itself}
use Rattle.buffer_pool.specs.Calls.{Does}
use Rattle.buffer_pool.specs.Forests.{TreeView}
use Rattle.buffer_pool.proofs.AddedLemmas.{none_added, held_adds, none_spares}
use Rattle.buffer_pool.proofs.FrameLemmas.{one_held}
use Rattle.buffer_pool.proofs.KeepLemmas.{learnt_same}

-- the object of this number, where it is held, is there and plays no part
abbrev pub IsAtRest : TreePass → ℕ → Type 0
IsAtRest q n = (h : Holding Object) → Holds (view q) n h
    → (x : Object) × Shows q n x × Rests h.known x

-- the frame in hand is at rest
pub frame_at_rest : (q : TreePass) (b : ℕ) (f g : Frame) → HasFrame q b f g → FrameRests f g
    → IsAtRest q (frame_id (shape_of_pass q) b)
frame_at_rest q b f g has rests h holds = (
  object.Frame g,
  has.value,
  subst (λ (o : Holding Object). Rests o.known (object.Frame g))
      (one_held q (frame_id (shape_of_pass q) b) (holding has.held.0 (object.Frame f)) h has.held.1
      holds) rests,
)

module _ (p q : TreePass) (b n : ℕ) (f g : Frame) (known : IsKnown p) (same : view q ≡ view p)
    (has : HasFrame q b f g) (rests : FrameRests f g) (other : IsAtRest q n)
    (beside : (j : ℕ) → j ≢ frame_id (shape_of_pass p) b → j ≢ n
    → get_elem? (values q) j ≡ get_elem? (values p) j) where
  abbrev own : ℕ
  own = frame_id (shape_of_pass p) b

  same_shape : shape_of_pass q ≡ shape_of_pass p
  same_shape = ap (λ (v : TreeView). v.terms.shape) same

  at_own : IsAtRest q own
  at_own = subst (λ (s : Shape). IsAtRest q (frame_id s b)) same_shape
      (frame_at_rest q b f g has rests)

  -- all else is what it is known to be
  pub known_else : (j : ℕ) (h : Holding Object) → j ≢ own → j ≢ n → Holds (view q) j h
      → Shows q j h.known
  known_else j h differs apart holds = beside j differs apart
      ∙ known j h (sym (ap (λ (v : TreeView). get_elem? v.held j) same) ∙ holds)

  all_rest : RestsBeyond q []
  all_rest j h apart holds = elim (cases_eq j own) [
    | inl e ↦ (let r = at_own h (ap (get_elem? (view q).held) (sym e) ∙ holds) in
        (r.0, ap (get_elem? (values q)) e ∙ r.1, r.2))
    | inr ne ↦ elim (cases_eq j n) [
      | inl e ↦ (let r = other h (ap (get_elem? (view q).held) (sym e) ∙ holds) in
          (r.0, ap (get_elem? (values q)) e ∙ r.1, r.2))
      | inr not ↦ (h.known, known_else j h ne not holds, rests_itself h.known)
    ]
  ]

  steps : StepsInHand q [] []
  steps = hands_make_steps q [] [] (record { each = tt; tops = tt; others = all_rest })

  pub changed_whole : (k : ℕ) (h : Holding Object) → Holds (view q) k h
      → (x : Object) × Shows q k x
  changed_whole = steps.whole

  pub changed_follows : HandKeepsHash q
      → Follows (shape_of_pass q) (known_values q) (values q) None
  changed_follows keeps = row_changes_follow.rest (shape_of_pass q) (known_values q) (values q)
      steps.make keeps

  -- once that is known
  module _ (r : TreePass) (told : DidSettle q r) where
    held_now : (view r).held ≡ learnt (values q) (view q).held
    held_now = ap (λ (v : TreeView). v.held) told.view

    pub changed_known : IsKnown r
    changed_known = learnt_known q r changed_whole held_now told.learnt.values

    settled_view : view r ≡ settling (view p) (values q)
    settled_view = told.view ∙ ap (λ (v : TreeView). settling v (values q)) same

    pub changed_shape : shape_of_pass r ≡ shape_of_pass p
    changed_shape = ap (λ (v : TreeView). v.terms.shape) settled_view

    pub changed_does : Does p r (n ∷ own ∷ []) none_added
    changed_does = record {
      adds = held_adds (view p) (view r) (learnt (values q) (view p).held) settled_view;
      spares = none_spares (shape_of_pass p);
      rest = λ j apart. ap (λ hs. get_elem? hs j) held_now
          ∙ (learnt_same (values q) (view q).held j
          (λ h holds. known_else j h apart.1.0 apart.0 holds)
          (λ lacked. sym (ap (λ hs. get_elem? hs j) held_now) ∙ told.learnt.lacks j lacked)
          ∙ ap (λ (v : TreeView). get_elem? v.held j) same);
      known = changed_known;
    }

    pub changed_frame : (t : Object) → Holds (view p) own (holding t (object.Frame f))
        → Holds (view r) own (holding t (object.Frame g))
    changed_frame t held = ap (λ hs. get_elem? hs own) held_now
        ∙ learnt_some (values q) (view q).held own (holding t (object.Frame f)) (object.Frame g)
        (ap (λ (v : TreeView). get_elem? v.held own) same ∙ held)
        (subst (λ (s : Shape). Shows q (frame_id s b) (object.Frame g)) same_shape has.value)

    pub changed_count : count q ≡ count p → count r ≡ count p
    changed_count counts = told.learnt.count ∙ counts

    pub changed_other : (t m x : Object) → Holds (view p) n (holding t m) → Shows q n x
        → Holds (view r) n (holding t x)
    changed_other t m x held shows = ap (λ hs. get_elem? hs n) held_now
        ∙ learnt_some (values q) (view q).held n (holding t m) x
        (ap (λ (v : TreeView). get_elem? v.held n) same ∙ held) shows
