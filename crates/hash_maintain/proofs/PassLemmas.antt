-- What a pass knows of its space, and of what it lacks.
use Rattle.std.proofs.Common.{◌≡◌, ℕ, ◌<◌, ◌^◌, true, false, List, [], length, sym, ap, subst, ◌∙◌, arith, append-nil, Option, Some, None}
use mathlib.Core.Option.{some, some-ne-none}
use lib.ListN.{get_elem?}
use Rattle.list_facts.proofs.Places.{there}
use Rattle.latch_law.specs.declared.knows.Knows.{Knows}
use Rattle.latch_law.specs.declared.knows.Refusal.{Refusal}
use Rattle.latch_law.specs.Fitting.{IsFitted, WasFree}
use Rattle.latch_law.specs.Views.{holding, with_held, with_refused}
use Rattle.latch_space.specs.Hands.{has_value, is_held}
use Rattle.latch_space.specs.Passes.{view}
use Rattle.latch_space.specs.Takes.{DidTake, DidTakeAfter}
use Rattle.index_law.specs.Answers.{MadeChange, Saying}
use Rattle.index_law.specs.Rightness.{IsRight}
use Rattle.index_law.specs.Shape.{Shape}
use Rattle.forest_law.specs.Counted.{SuitsHash}
use Rattle.forest_law.specs.declared.objects.Object.{Object}
use Rattle.forest_law.specs.Law.{IsLawful}
use Rattle.forest_law.specs.Numbers.{part_id, frame_id, frames_of}
use Rattle.forest_law.specs.References.{IsReference}
use Rattle.forest_world.specs.Held.{TreePass, shape_of_pass}

-- what each pass knows of its space: how many objects there are, and that its shape suits the hash
pub record KnowsForest (p : TreePass) : Type 0 where
  pub objects : (view p).terms.objects ≡ frame_id (shape_of_pass p) (frames_of (shape_of_pass p))
  pub hash : SuitsHash (shape_of_pass p)

pub knows_forest : (p : TreePass) → IsFitted IsLawful IsRight IsReference (view p) → KnowsForest p
knows_forest p fitted = let counted = fitted.is_lawful.objects.counted in
    let shape = fitted.fits.shape in record {
      objects = sym fitted.fits.counted.0
          ∙ (counted.objects ∙ ap (λ (s : Shape). frame_id s (frames_of s)) shape);
      hash = subst SuitsHash shape counted.hash;
    }

-- the number of a partition fits
pub part_fits : (s s' : Shape) (k n : ℕ) → s' ≡ s → k < s.parts → n ≡ frame_id s (frames_of s)
    → n < 2 ^ 32 → part_id s' k < 2 ^ 32
part_fits s s' k n same below is few = let e = ap (λ (z : Shape). z.indexes) same in
    omega (arith, e, below, is, few)

-- what isn't held is lacked
pub unheld_lacks : {X : Type 0} (hs : List (Option X)) (k : ℕ) → k < length hs
    → is_held hs k ≡ false → get_elem? hs k ≡ some None
unheld_lacks hs k below none = let a = there hs k below in pick a.0 a.1
  where
    no : true ≡ false → ⊥
    no e = absurd cc

    pick : (o : Option _) → get_elem? hs k ≡ some o → get_elem? hs k ≡ some None
    pick (Some x) e = absurd (no (sym (ap has_value e) ∙ none))
    pick None e = e

-- and what is held isn't
pub held_not_lacked : {X : Type 0} (hs : List (Option X)) (k : ℕ) → is_held hs k ≡ true
    → get_elem? hs k ≡ some None → ⊥
held_not_lacked hs k held lacks = no (sym (ap has_value lacks) ∙ held)
  where
    no : false ≡ true → ⊥
    no e = absurd cc

-- no refused try more is nothing more
pub no_more : (v : Knows Shape Object MadeChange Saying) → with_refused v [] ≡ v
no_more v = ap (λ (fs : List (Refusal Object)). record v { refused = fs }) (append-nil v.refused)

-- what was taken at once was taken after no refused try
unfoldable pub after_none : (p q : TreePass) (k : ℕ) → DidTake IsLawful IsRight IsReference p k q
    → DidTakeAfter IsLawful IsRight IsReference p k q
after_none p q k told = record {
  refused = [];
  tries = λ j f at. absurd (some-ne-none f (sym at));
  value = told.value;
  was_free = subst (λ v. WasFree IsLawful IsRight IsReference v k told.value)
      (sym (no_more (view p))) told.was_free;
  view = told.view
      ∙ ap (λ v. with_held v k (Some (holding told.value told.value))) (sym (no_more (view p)));
  values = told.values;
  took = told.took;
}
