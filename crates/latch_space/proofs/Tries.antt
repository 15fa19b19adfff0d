-- Some refused tries of one object.
use Rattle.std.proofs.Common.{◌≡◌, ℕ, ◌+◌, ◌<◌, set, Option, Some, List, [], ◌∷◌, ◌++◌, sym, refl, ap, ◌∙◌, subst, ⊎_elim, append-nil, append_assoc}
use mathlib.Core.Option.{some-ne-none}
use lib.ListN.{get_elem?}
use Rattle.atomic_table.proofs.Lists.{at_snoc}
use Rattle.latch_law.specs.declared.knows.Holding.{Holding}
use Rattle.latch_law.specs.declared.knows.Knows.{Knows}
use Rattle.latch_law.specs.declared.knows.Refusal.{Refusal}
use Rattle.latch_law.specs.Whole.{StateLaw, AnswerLaw, ReferenceLaw}
use Rattle.latch_law.specs.Views.{holding, with_held, with_refused, refusing}
use Rattle.latch_law.specs.Fitting.{AreTriesOf, IsAnother, WasFree}
use Rattle.latch_space.specs.declared.pass.PassOf.{PassOf}
use Rattle.latch_space.specs.Passes.{view, count, Lacks, IsSamePass}
use Rattle.latch_space.specs.declared.space.SpaceOf.{SpaceOf}
use Rattle.latch_space.specs.Spaces.{IsPassOf}
use Rattle.latch_space.specs.Has.{SameHands}
use Rattle.latch_space.specs.Takes.{DidTake, DidTakeAfter, WasBusy}

module _ {Sh O C A : Type 0} where
  -- a pass stays the same one at a try and the next
  pub same_pass : (p q r : PassOf Sh O C A) → IsSamePass p q → IsSamePass q r → IsSamePass p r
  same_pass p q r same more = (more.0 ∙ same.0, more.1 ∙ same.1)

  -- some refused tries of the object k, and nothing else
  pub record Tried (p : PassOf Sh O C A) (k : ℕ) (q : PassOf Sh O C A) : Type 0 where
    pub refused : List (Refusal O)
    pub tries : AreTriesOf (view p) k refused
    pub view : view q ≡ with_refused (view p) refused
    pub same : SameHands p q

  pub tried_none : (p : PassOf Sh O C A) (k : ℕ) → Tried p k p
  tried_none p k = record {
    refused = [];
    tries = λ j f e. absurd (some-ne-none f (sym e));
    view = λ i. record (view p) { refused = sym (append-nil (view p).refused) i };
    same = record { held = refl; values = refl; count = refl };
  }

  -- it is a pass of the same space, lacks what it lacked, and holds no more
  module _ (p q : PassOf Sh O C A) (k : ℕ) (t : Tried p k q) where
    pub own_tried : {Q : Type 0} (s : SpaceOf Sh O C A Q) → q.seat.table_id ≡ p.seat.table_id → IsPassOf s p → IsPassOf s q
    own_tried s same own = (same ∙ own.0, ap (λ (z : Knows Sh O C A). z.terms) t.view ∙ own.1)

    pub lacks_tried : Lacks p k → Lacks q k
    lacks_tried lacks = ap (λ (z : List (Option (Holding O))). get_elem? z k) t.same.held ∙ lacks

    pub few_tried : (n : ℕ) → count p < n → count q < n
    few_tried n few = subst (λ (m : ℕ). m < n) (sym t.same.count) few

  tries_more : (v : Knows Sh O C A) (k : ℕ) (fs : List (Refusal O)) (f : Refusal O) → AreTriesOf v k fs → (f.object ≡ k) × (f.held ≡ v.held) × IsAnother v f.holder → AreTriesOf v k (fs ++ f ∷ [])
  tries_more v k fs f tries new j g e = let P : Refusal O → Type 0 = λ z. (z.object ≡ k) × (z.held ≡ v.held) × IsAnother v z.holder in ⊎_elim (tries j g) (λ (is : f ≡ g). subst P is new) (at_snoc fs f g j e)

module _ {Sh O C A : Type 0} (lawful : StateLaw Sh O C) (answers : AnswerLaw Sh O C A) (refers : ReferenceLaw Sh O C) where
  -- one refused try more
  pub tried_more : (p q r : PassOf Sh O C A) (k n : ℕ) → Tried p k q → WasBusy lawful answers refers q k n r → Tried p k r
  tried_more p q r k n t busy = let v : Knows Sh O C A = view p in let f : Refusal O = record { object = k; holder = n; held = v.held } in record {
    refused = t.refused ++ f ∷ [];
    tries = tries_more v k t.refused f t.tries (refl, refl, subst (λ (z : Knows Sh O C A). IsAnother z n) t.view busy.was_held.another);
    view = busy.view ∙ (ap (λ (z : Knows Sh O C A). refusing z k n) t.view ∙ (λ i. record v { refused = append_assoc v.refused t.refused (f ∷ []) i }));
    same = record { held = busy.same.held ∙ t.same.held; values = busy.same.values ∙ t.same.values; count = busy.same.count ∙ t.same.count };
  }

  -- and the take that ends them
  pub taken_after : (p q r : PassOf Sh O C A) (k : ℕ) → Tried p k q → DidTake lawful answers refers q k r → DidTakeAfter lawful answers refers p k r
  taken_after p q r k t did = let x : O = did.value in record {
    refused = t.refused;
    tries = t.tries;
    value = x;
    was_free = subst (λ (z : Knows Sh O C A). WasFree lawful answers refers z k x) t.view did.was_free;
    view = did.view ∙ ap (λ (z : Knows Sh O C A). with_held z k (Some (holding x x))) t.view;
    values = did.values ∙ ap (λ (z : List (Option O)). set z k (Some x)) t.same.values;
    took = record {
      has = did.took.has;
      others = λ j differs. let s = did.took.others j differs in
          (s.0 ∙ ap (λ (z : List (Option (Holding O))). get_elem? z j) t.same.held, s.1 ∙ ap (λ (z : List (Option O)). get_elem? z j) t.same.values);
      count = did.took.count ∙ ap (λ (n : ℕ). n + 1) t.same.count;
    };
  }
