-- Objects in hand that become others, while nothing more is known.
use Rattle.std.proofs.Common.{◌≡◌, ◌≢◌, ℕ, List, [], ◌∷◌, sym, ap, subst, ◌∙◌, Some}
use Rattle.std.specs.List.{AllByRecursion}
use mathlib.Core.Option.{some}
use lib.ListN.{get_elem?}
use Rattle.latch_law.specs.declared.knows.Holding.{Holding}
use Rattle.latch_law.specs.Rule.{Holds}
use Rattle.latch_law.specs.Views.{holding}
use Rattle.latch_space.specs.Has.{Has, IsKnown}
use Rattle.latch_space.specs.Passes.{view, values, Shows}
use Rattle.index_law.specs.Shape.{Shape}
use Rattle.forest_law.specs.declared.objects.Frame.{Frame}
use Rattle.forest_law.specs.declared.objects.Object.{Object}
use Rattle.forest_law.specs.declared.objects.Object.TheVariants as object
use Rattle.forest_law.specs.Numbers.{frame_id}
use Rattle.forest_world.specs.Held.{TreePass, shape_of_pass, HasFrame}
use Rattle.call_law.specs.Spoken.{View}
use Rattle.buffer_pool.specs.Frames.{TakesOut, PutsBack}
use Rattle.buffer_pool.specs.Hands.{IsAmong}
use Rattle.buffer_pool.proofs.FrameLemmas.{one_held}
use Rattle.tree_smo.specs.Remakes.{Remakes}

module _ (p q : TreePass) where
  -- a frame was taken out, or put back
  pub remakes_out : (b : ℕ) (f : Frame) → TakesOut p b f q
      → Remakes p q (frame_id (shape_of_pass p) b ∷ [])
  remakes_out b f out = record {
    same_view = out.view;
    others = λ k apart. (out.hand.others k apart.0).1;
    same_count = out.count;
  }

  pub remakes_back : (b : ℕ) (f : Frame) → PutsBack p b f q
      → Remakes p q (frame_id (shape_of_pass p) b ∷ [])
  remakes_back b f back = record {
    same_view = back.view;
    others = λ k apart. (back.hand.others k apart.0).1;
    same_count = back.count;
  }

  -- one object among others
  pub remakes_among : (k : ℕ) (ks : List ℕ) → IsAmong k ks → Remakes p q (k ∷ []) → Remakes p q ks
  remakes_among k ks among r = record {
    same_view = r.same_view;
    others = λ j apart. r.others j
        (λ e. among (subst (λ (m : ℕ). AllByRecursion (λ (i : ℕ). m ≢ i) ks) e apart), tt);
    same_count = r.same_count;
  }

  -- some objects, and perhaps more
  pub remakes_weaker : (ks js : List ℕ)
      → ((k : ℕ) → AllByRecursion (λ (j : ℕ). k ≢ j) js → AllByRecursion (λ (j : ℕ). k ≢ j) ks)
      → Remakes p q ks → Remakes p q js
  remakes_weaker ks js fewer r = record {
    same_view = r.same_view;
    others = λ k apart. r.others k (fewer k apart);
    same_count = r.same_count;
  }

  module _ (ks : List ℕ) (r : Remakes p q ks) where
    -- it is a pass of the same shape
    pub same_shape : shape_of_pass p ≡ shape_of_pass q
    same_shape = ap (λ (v : View). v.terms.shape) (sym r.same_view)

    -- what is known to be in hand, and isn't among the objects, is as before
    pub has_remade : (k : ℕ) → AllByRecursion (λ (j : ℕ). k ≢ j) ks → (m x : Object) → Has p k m x
        → Has q k m x
    has_remade k apart m x has = record {
      held = (has.held.0, ap (λ (v : View). get_elem? v.held k) r.same_view ∙ has.held.1);
      value = r.others k apart ∙ has.value;
    }

    pub frame_remade : (b : ℕ) (f g : Frame)
        → AllByRecursion (λ (j : ℕ). frame_id (shape_of_pass p) b ≢ j) ks → HasFrame p b f g
        → HasFrame q b f g
    frame_remade b f g apart has =
        subst (λ (s : Shape). Has q (frame_id s b) (object.Frame f) (object.Frame g)) same_shape
        (has_remade (frame_id (shape_of_pass p) b) apart (object.Frame f) (object.Frame g) has)

    -- and is what it is known to be
    pub known_remade : IsKnown p → (j : ℕ) (h : Holding Object)
        → AllByRecursion (λ (k : ℕ). j ≢ k) ks → Holds (view q) j h → Shows q j h.known
    known_remade known j h apart held = r.others j apart
        ∙ known j h (ap (λ (v : View). get_elem? v.held j) (sym r.same_view) ∙ held)

-- one remaking behind the other, of the objects that have these numbers in a space of the shape
pub remakes_both : (p q r : TreePass) (ids : Shape → List ℕ) → Remakes p q (ids (shape_of_pass p))
    → Remakes q r (ids (shape_of_pass q)) → Remakes p r (ids (shape_of_pass p))
remakes_both p q r ids first second =
    let back = subst (λ (s : Shape). Remakes q r (ids s))
    (sym (same_shape p q (ids (shape_of_pass p)) first)) second in
    record {
      same_view = second.same_view ∙ first.same_view;
      others = λ k apart. back.others k apart ∙ first.others k apart;
      same_count = second.same_count ∙ first.same_count;
    }

-- an object that is what it is known to be shows so
pub shows_known : (p : TreePass) (k : ℕ) (m : Object) → Has p k m m → (j : ℕ) (h : Holding Object)
    → j ≡ k → Holds (view p) j h → Shows p j h.known
shows_known p k m has j h e held = ap (get_elem? (values p)) e ∙ (has.value
    ∙ ap (λ (g : Holding Object). some (Some g.known))
    (one_held p k (holding has.held.0 m) h has.held.1
    (ap (get_elem? (view p).held) (sym e) ∙ held)))
