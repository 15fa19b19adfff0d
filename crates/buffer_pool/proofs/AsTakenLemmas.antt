-- Which frames are as they were taken.
use Rattle.std.proofs.Common.{◌≡◌, ◌≢◌, ℕ, inl, inr, Bool, true, false, List, [], ◌∷◌, ◌++◌, cond, sym, ap, subst, ◌∙◌, refl, Option, Some, None}
use Rattle.std.specs.Prelude.{◌⊎◌}
use Rattle.std.specs.List.{AllByRecursion}
use Rattle.std.proofs.lemmas.Bool.{cases_eq}
use lib.ListN.{get_elem?}
use Rattle.atomic_table.proofs.Lists.{set_here}
use Rattle.list_facts.proofs.Each.{each_append, each_weaker}
use Rattle.list_facts.proofs.Places.{inside, not_both}
use Rattle.latch_law.specs.declared.knows.Holding.{Holding}
use Rattle.latch_law.specs.declared.knows.Reference.{Reference}
use Rattle.latch_law.specs.declared.knows.Terms.{Terms}
use Rattle.latch_law.specs.Rule.{Holds}
use Rattle.latch_law.specs.Views.{holding}
use Rattle.latch_law.specs.Whole.{reference}
use Rattle.latch_space.specs.Passes.{view}
use Rattle.index_law.specs.Shape.{Shape}
use Rattle.forest_law.specs.declared.objects.Frame.{Frame}
use Rattle.forest_law.specs.declared.objects.Object.{Object}
use Rattle.forest_law.specs.declared.objects.Object.TheVariants as object
use Rattle.forest_law.specs.Numbers.{frame_id}
use Rattle.forest_law.proofs.ObjectLemmas.{same_frame}
use Rattle.forest_world.specs.Held.{TreePass, shape_of_pass}
use Rattle.call_law.specs.Hands.{KnowsFrame, HoldsTheRest}
use Rattle.call_law.specs.Spoken.{View}
use Rattle.call_law.specs.Trace.{SameNumbers, is_frame, frame_references}
use Rattle.buffer_pool.specs.AsTaken.{IsAsTaken, AreAsTaken, HoldsAsTaken, Exception, NoException, AreAsTakenBut, WasHeldSo, KeepsAsHeld, StaysTaken}
use Rattle.buffer_pool.specs.Frames.{TakesFrame, GivesFrame}
use Rattle.buffer_pool.specs.Hands.{LacksFrame}
use Rattle.buffer_pool.proofs.FrameLemmas.{one_held}

-- what didn't change is as it was taken
pub same_as_taken : (x : Object) → IsAsTaken x x
same_as_taken x f g was is kept = same_frame g f (sym is ∙ was)

-- where no frame was given back, each is as it was taken
pub none_as_taken : (qs : List (Reference Object)) → frame_references qs ≡ [] → AreAsTaken qs
none_as_taken [] none = tt
none_as_taken (q ∷ qs) none =
    let a = step (is_frame q.released) (frame_references qs) none in
    ((λ f g was is kept. absurd (no (sym (ap is_frame is) ∙ a.0))), none_as_taken qs a.1)
  where
    no : true ≡ false → ⊥
    no e = absurd cc

    step : (o : Bool) (xs : List (Reference Object)) → cond o (q ∷ xs) xs ≡ []
        → (o ≡ false) × (xs ≡ [])
    step true xs e = absurd cc
    step false xs e = (refl, e)

-- those of frames alone
pub frames_as_taken : (qs : List (Reference Object)) → AreAsTaken qs
    → AreAsTaken (frame_references qs)
frames_as_taken [] each = tt
frames_as_taken (q ∷ qs) each =
    pick (is_frame q.released) (frame_references qs) (frames_as_taken qs each.1)
  where
    pick : (o : Bool) (xs : List (Reference Object)) → AreAsTaken xs
        → AreAsTaken (cond o (q ∷ xs) xs)
    pick true xs rest = (each.0, rest)
    pick false xs rest = rest

-- a frame in hand, known by what is known of one holding
pub held_as_taken : (q : TreePass) (b : ℕ) (h : Holding Object)
    → Holds (view q) (frame_id (shape_of_pass q) b) h → IsAsTaken h.taken h.known
    → HoldsAsTaken (view q) b
held_as_taken q b h held same other has = subst
    (λ (z : Holding Object). IsAsTaken z.taken z.known)
    (one_held q (frame_id (shape_of_pass q) b) h other held has) same

-- a frame of the rest is as it was taken still
pub rest_as_taken : (v v' : View) (ks : List ℕ) → SameNumbers v v' → HoldsTheRest v v' ks
    → (b : ℕ) → AllByRecursion (λ (j : ℕ). frame_id v.terms.shape b ≢ j) ks
    → HoldsAsTaken v b → HoldsAsTaken v' b
rest_as_taken v v' ks same rest b apart stands h held = stands h
    (sym (rest (frame_id v.terms.shape b) apart)
    ∙ (ap (λ (t : Terms Shape). get_elem? v'.held (frame_id t.shape b)) (sym same.terms) ∙ held))

-- what two calls gave back
pub both_as_taken : (qs rs : List (Reference Object)) → AreAsTaken qs → AreAsTaken rs
    → AreAsTaken (qs ++ rs)
both_as_taken qs rs first second =
    each_append (λ (q : Reference Object). IsAsTaken q.taken q.released) qs rs first second

-- a frame that was held before is held since the same take
pub still_taken : (p : TreePass) (b : ℕ) (f : Frame) → KnowsFrame (view p) b f → StaysTaken p p b f
still_taken p b f knows h held = subst
    (λ (z : Holding Object). Holds (view p) (frame_id (shape_of_pass p) b)
    (holding z.taken (object.Frame f)))
    (one_held p (frame_id (shape_of_pass p) b) (holding knows.0 (object.Frame f)) h knows.1 held)
    knows.1

-- a frame that was just taken is known as it was then
pub just_taken : (p q : TreePass) (b : ℕ) → LacksFrame p b → (took : TakesFrame p b q)
    → Holds (view q) (frame_id (shape_of_pass p) b)
    (holding (object.Frame took.frame) (object.Frame took.frame))
just_taken p q b lacks took = let k = frame_id (shape_of_pass p) b in
    ap (λ (v : View). get_elem? v.held k) took.view
    ∙ set_here (view p).held k
    (Some (holding (object.Frame took.frame) (object.Frame took.frame)))
    (inside (view p).held k None lacks)

pub took_as_taken : (p q : TreePass) (b : ℕ) → LacksFrame p b → TakesFrame p b q
    → HoldsAsTaken (view q) b
took_as_taken p q b lacks took = held_as_taken q b
    (holding (object.Frame took.frame) (object.Frame took.frame))
    (subst
    (λ (t : Terms Shape). Holds (view q) (frame_id t.shape b)
    (holding (object.Frame took.frame) (object.Frame took.frame))) (sym took.hand.terms)
    (just_taken p q b lacks took)) (same_as_taken (object.Frame took.frame))

-- and one that was given back as it was held
pub gave_as_taken : (p q : TreePass) (b : ℕ) → (gave : GivesFrame p b q) → HoldsAsTaken (view p) b
    → IsAsTaken gave.taken (object.Frame gave.frame)
gave_as_taken p q b gave same = same (holding gave.taken (object.Frame gave.frame)) gave.held

-- what was given back as it was taken is no exception
pub as_taken_but : (but : Exception) (qs : List (Reference Object)) → AreAsTaken qs
    → AreAsTakenBut but qs
as_taken_but but qs each = each_weaker
    (λ (q : Reference Object). IsAsTaken q.taken q.released)
    (λ (q : Reference Object). IsAsTaken q.taken q.released ⊎ but q) (λ q so. inl so) qs each

pub none_but : (qs : List (Reference Object)) → AreAsTakenBut NoException qs → AreAsTaken qs
none_but qs each = each_weaker
    (λ (q : Reference Object). IsAsTaken q.taken q.released ⊎ ⊥)
    (λ (q : Reference Object). IsAsTaken q.taken q.released) (λ q so. elim so [
      | inl taken ↦ taken
      | inr never ↦ absurd never
    ]) qs each

pub both_but : (but : Exception) (qs rs : List (Reference Object)) → AreAsTakenBut but qs
    → AreAsTakenBut but rs → AreAsTakenBut but (qs ++ rs)
both_but but qs rs first second =
    each_append (λ (q : Reference Object). IsAsTaken q.taken q.released ⊎ but q) qs rs first
    second

-- other exceptions
pub other_but : (but other : Exception)
    → ((q : Reference Object) → but q → IsAsTaken q.taken q.released ⊎ other q)
    → (qs : List (Reference Object)) → AreAsTakenBut but qs → AreAsTakenBut other qs
other_but but other is qs each = each_weaker
    (λ (q : Reference Object). IsAsTaken q.taken q.released ⊎ but q)
    (λ (q : Reference Object). IsAsTaken q.taken q.released ⊎ other q) (λ q so. elim so [
      | inl taken ↦ inl taken
      | inr exception ↦ is q exception
    ]) qs each

-- what was held at some time
abbrev pub held_in : View → Exception
held_in v q = WasHeldSo v q.object q.taken q.released

-- one step behind the other
pub keeps_both : (v v0 v1 : View) (qs rs : List (Reference Object)) → KeepsAsHeld v v0 qs
    → KeepsAsHeld v0 v1 rs → KeepsAsHeld v v1 (qs ++ rs)
keeps_both v v0 v1 qs rs first second = record {
  hand = λ k h held. elim (second.hand k h held) [
    | inl before ↦ first.hand k (holding h.taken h.known) before
    | inr taken ↦ inr taken
  ];
  gave = both_but (held_in v) qs rs first.gave
      (other_but (held_in v0) (held_in v)
      (λ q before. elim (first.hand q.object (holding q.taken q.released) before) [
        | inl was ↦ inr was
        | inr taken ↦ inl taken
      ]) rs second.gave);
}

-- the hand stayed, and no frame was given back
pub keeps_same : (v v' : View) → v'.held ≡ v.held → (qs : List (Reference Object))
    → frame_references qs ≡ [] → KeepsAsHeld v v' qs
keeps_same v v' same qs none = record {
  hand = λ k h held. inl (ap (λ hs. get_elem? hs k) (sym same) ∙ held);
  gave = as_taken_but (held_in v) qs (none_as_taken qs none);
}

-- all is held as before, and no frame was given back
pub keeps_rest : (v v' : View) → HoldsTheRest v v' [] → (qs : List (Reference Object))
    → frame_references qs ≡ [] → KeepsAsHeld v v' qs
keeps_rest v v' rest qs none = record {
  hand = λ k h held. inl (sym (rest k tt) ∙ held);
  gave = as_taken_but (held_in v) qs (none_as_taken qs none);
}

-- a frame was taken besides, and no frame was given back
pub keeps_took : (v v' : View) (b : ℕ) → SameNumbers v v'
    → HoldsTheRest v v' (frame_id v.terms.shape b ∷ []) → HoldsAsTaken v' b
    → (qs : List (Reference Object)) → frame_references qs ≡ [] → KeepsAsHeld v v' qs
keeps_took v v' b same rest taken qs none = record {
  hand = λ k h held. elim (cases_eq k (frame_id v.terms.shape b)) [
    | inl e ↦ inr (taken h
        (ap (get_elem? v'.held)
        (ap (λ (t : Terms Shape). frame_id t.shape b) same.terms ∙ sym e) ∙ held))
    | inr ne ↦ inl (sym (rest k (ne, tt)) ∙ held)
  ];
  gave = as_taken_but (held_in v) qs (none_as_taken qs none);
}

-- a frame was given back
pub keeps_gave : (p q : TreePass) (b : ℕ) → (gave : GivesFrame p b q)
    → KeepsAsHeld (view p) (view q)
    (reference (frame_id (shape_of_pass p) b) gave.taken (object.Frame gave.frame) ∷ [])
keeps_gave p q b gave = record {
  hand = λ k h held. elim (cases_eq k (frame_id (shape_of_pass p) b)) [
    | inl e ↦ absurd (not_both (view q).held (frame_id (shape_of_pass p) b) h
        (ap (λ (t : Terms Shape). get_elem? (view q).held (frame_id t.shape b))
        (sym gave.hand.terms) ∙ gave.lacks) (ap (get_elem? (view q).held) (sym e) ∙ held))
    | inr ne ↦ inl (sym (gave.hand.others k ne).0 ∙ held)
  ];
  gave = (inr gave.held, tt);
}
