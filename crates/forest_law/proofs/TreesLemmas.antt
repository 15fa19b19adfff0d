-- The heights are led to.
use Rattle.std.proofs.Common.{◌≡◌, ◌⊎◌, inl, inr, ℕ, List, Option, Some, refl, sym, ap, subst, ◌∙◌}
use mathlib.Core.Option.{some, some-injective}
use lib.ListN.{get_elem?}
use Rattle.list_facts.proofs.Places.{same_some}
use Rattle.forest_law.specs.declared.objects.Tree.{Tree}
use Rattle.forest_law.specs.declared.objects.Object.{Object}
use Rattle.forest_law.specs.declared.objects.Object.TheVariants as object
use Rattle.forest_law.specs.Numbers.{tree_id}
use Rattle.forest_law.specs.State.{height_of, heights_of}
use Rattle.forest_law.specs.Objects.{Becomes}
use Rattle.forest_law.specs.Kinds.{KeepsKind}
use Rattle.forest_law.specs.Trees.{TreeTurns, TreeRests, HeightsLead}
use Rattle.forest_law.proofs.ObjectLemmas.{Changes, Leads, not_tree_frame, not_tree_part, not_tree_pool}

module _ (xs ys : List Object) (before news : List (Option Object))
    (leads : Leads xs ys before news)
    (keeps : (k : ℕ) (x y : Object) → Becomes before news k x y → KeepsKind x y) where
  -- what was changed is no tree
  no_tree : (i : ℕ) (x : Object) (c : Changes xs ys before news (tree_id i)) → c.old ≡ x
      → ((t : Tree) → x ≡ object.Tree t → ⊥) → (t : Tree)
      → get_elem? before (tree_id i) ≡ some (Some (object.Tree t)) → ⊥
  no_tree i x c was isnt t e =
      isnt t (sym was
      ∙ same_some c.old (object.Tree t)
      (some-injective (Some c.old) (Some (object.Tree t)) (sym c.becomes.0 ∙ e)))

  changed : (i : ℕ) (x y : Object) (c : Changes xs ys before news (tree_id i)) → c.old ≡ x
      → c.new ≡ y
      → TreeTurns before news i (heights_of xs i) (heights_of ys i)
      ⊎ TreeRests before i (heights_of xs i) (heights_of ys i)
  changed i (object.Tree t) (object.Tree u) c was is =
      inl (record {
        old = t;
        new = u;
        becomes = (
          c.becomes.0 ∙ ap (λ x. some (Some x)) was,
          c.becomes.1 ∙ ap (λ x. some (Some x)) is,
        );
        was = ap height_of (c.was ∙ ap some was);
        is = ap height_of (c.is ∙ ap some is);
      })
  changed i (object.Frame f) (object.Frame g) c was is =
      inr (record {
        free = no_tree i (object.Frame f) c was (λ t e. not_tree_frame f t e);
        same = ap height_of (c.is ∙ ap some is) ∙ sym (ap height_of (c.was ∙ ap some was));
      })
  changed i (object.Part p) (object.Part q) c was is =
      inr (record {
        free = no_tree i (object.Part p) c was (λ t e. not_tree_part p t e);
        same = ap height_of (c.is ∙ ap some is) ∙ sym (ap height_of (c.was ∙ ap some was));
      })
  changed i (object.Pool f) (object.Pool g) c was is =
      inr (record {
        free = no_tree i (object.Pool f) c was (λ t e. not_tree_pool f t e);
        same = ap height_of (c.is ∙ ap some is) ∙ sym (ap height_of (c.was ∙ ap some was));
      })
  changed i x y c was is =
      absurd (subst (λ z. KeepsKind z y) was
      (subst (KeepsKind c.old) is (keeps (tree_id i) c.old c.new c.becomes)))

  -- a step leads from the heights to the heights
  pub heights_lead : HeightsLead before news (heights_of xs) (heights_of ys)
  heights_lead i = elim (leads.fate (tree_id i)) [
    | inl stays ↦
        inr (record { free = λ t. stays.free (object.Tree t); same = ap height_of stays.same })
    | inr c ↦ changed i c.old c.new c refl refl
  ]
