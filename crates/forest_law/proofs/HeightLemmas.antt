-- The heights that steps of trees lead to.
use Rattle.std.proofs.Common.{◌≡◌, ◌≢◌, ◌⊎◌, inl, inr, ℕ, [], ◌∷◌, List, sym, ap, ◌∙◌, arith, Option}
use mathlib.Core.Path.{fun_ext}
use Rattle.tree_law.proofs.LeafLemmas.{each_in}
use Rattle.index_law.specs.Shape.{Shape}
use Rattle.forest_law.specs.declared.objects.Tree.{Tree}
use Rattle.forest_law.specs.declared.objects.Object.{Object}
use Rattle.forest_law.specs.declared.objects.Object.TheVariants as object
use Rattle.forest_law.specs.Numbers.{tree_id}
use Rattle.forest_law.specs.Objects.{Becomes}
use Rattle.forest_law.specs.Trees.{HeightsLead, TreeTurns, TreeRests}
use Rattle.forest_law.specs.Steps.{FrameStep, TreeStep, MakesFrameStep, IsNoTreeOf, MakeSteps}
use Rattle.forest_law.proofs.ObjectLemmas.{same_tree, not_tree_frame}
use Rattle.forest_law.proofs.FrameStepLemmas.{frame_or, one_before, one_after}
use lib.ListN.{get_elem?}

module _ (sh : Shape) (before news : List (Option Object)) (steps : List FrameStep)
    (trees : List TreeStep) (make : MakeSteps sh before news steps trees) where
  -- a held tree that makes no step keeps its height
  same_height : (i : ℕ) (x y : Tree) → IsNoTreeOf (tree_id i) trees
      → Becomes before news (tree_id i) (object.Tree x) (object.Tree y) → y.height ≡ x.height
  same_height i x y apart b = elim (frame_or sh (tree_id i) steps) [
    | inl none ↦ ap (λ t. t.height)
        (make.others (tree_id i) (object.Tree x) (object.Tree y) b none apart)
    | inr s ↦ (let m = each_in (MakesFrameStep sh before news) steps make.each s.0 s.1 in
        absurd (not_tree_frame s.0.hand.old x
        (one_before before news (tree_id i) (object.Frame s.0.hand.old) (object.Tree x)
        (ap (get_elem? before) s.2 ∙ m.becomes.0) b.0)))
  ]

  pub height_rests : (i : ℕ) (h h' : ℕ) → IsNoTreeOf (tree_id i) trees
      → TreeTurns before news i h h' ⊎ TreeRests before i h h' → h' ≡ h
  height_rests i h h' apart (inl t) =
      t.is ∙ (same_height i t.old t.new apart t.becomes ∙ sym t.was)
  height_rests i h h' apart (inr r) = r.same

-- where no tree makes a step the heights stay
pub heights_stay : (sh : Shape) (before news : List (Option Object)) (steps : List FrameStep)
    → MakeSteps sh before news steps [] → (h h' : ℕ → ℕ) → HeightsLead before news h h' → h' ≡ h
heights_stay sh before news steps make h h' lead =
    fun_ext (λ i. height_rests sh before news steps [] make i (h i) (h' i) tt (lead i))

-- heights of which one moves
pub record HeightsMove (t : TreeStep) (h h' : ℕ → ℕ) : Type 0 where
  pub was : h t.index ≡ t.old.height
  pub is : h' t.index ≡ t.new.height
  pub others : (i : ℕ) → i ≢ t.index → h' i ≡ h i

-- where one tree makes a step its height moves
pub heights_move : (sh : Shape) (before news : List (Option Object)) (steps : List FrameStep)
    (t : TreeStep) → MakeSteps sh before news steps (t ∷ []) → (h h' : ℕ → ℕ)
    → HeightsLead before news h h' → HeightsMove t h h'
heights_move sh before news steps t make h h' lead = here (lead t.index)
  where
    here : TreeTurns before news t.index (h t.index) (h' t.index)
        ⊎ TreeRests before t.index (h t.index) (h' t.index) → HeightsMove t h h'
    here (inl turn) = let m = make.tops.0 in record {
      was = turn.was ∙ ap (λ z. z.height) (same_tree turn.old t.old
          (one_before before news (tree_id t.index) (object.Tree turn.old) (object.Tree t.old)
          turn.becomes.0 m.becomes.0));
      is = turn.is ∙ ap (λ z. z.height) (same_tree turn.new t.new
          (one_after before news (tree_id t.index) (object.Tree turn.new) (object.Tree t.new)
          turn.becomes.1 m.becomes.1));
      others = λ i ne. height_rests sh before news steps (t ∷ []) make i (h i) (h' i)
          ((λ e. ne (omega (arith, e))), tt) (lead i);
    }
    here (inr r) = absurd (r.free t.old make.tops.0.becomes.0)
