use Rattle.std.proofs.Common.{◌≡◌, ◌<◌, ◌≤◌, ℕ, zero, suc, List, [], ◌∷◌, length, Option, Some, None, refl, arith, subst, ap, sym, ◌∙◌}
use Rattle.std.specs.Prelude.{slice_index_or, IfSome}
use lib.ListN.{get_elem?}
use Rattle.latch_law.specs.declared.knows.Terms.{Terms}
use Rattle.latch_law.specs.Rule.{first_view}
use Rattle.search_info.specs.declared.knows.Knows.{Knows}
use Rattle.index_law.specs.Shape.{Shape}
use Rattle.forest_law.specs.Numbers.{frame_id, frames_of}
use Rattle.forest_law.specs.State.{or_zero}
use Rattle.call_law.specs.Spoken.{View}
use Rattle.index_engine.proofs.LearnerLemmas.{knows_first}
use Rattle.index_engine.proofs.LimitedLemmas.{sizes_limited}
use Rattle.index_engine.proofs.engine.Engine.open.Goals as goal

-- a number of a list, by the one look-up and by the other
number_at : (xs : List ℕ) (i : ℕ) → i < length xs → slice_index_or xs i 0 ≡ or_zero (get_elem? xs i)
number_at [] i below = absurd (omega arith)
number_at (x ∷ xs) zero below = refl
number_at (x ∷ xs) (suc i) below = number_at xs i (omega arith)

-- what holds of an option's value
of_its_value : {T : Type 0} (P : T → Type 0) (o : Option T) (value : T) → Some value ≡ o
    → P value → IfSome o P
of_its_value {T} P o value is holds = subst (λ (z : Option T). IfSome z P) is holds

-- and of none
of_no_value : {T : Type 0} (P : T → Type 0) (o : Option T) → None ≡ o → IfSome o P
of_no_value {T} P o none = subst (λ (z : Option T). IfSome z P) none tt

pub open_forest-requires-clause-hash : goal.open_forest-requires-clause-hash
open_forest-requires-clause-hash c = let fields = c.args.fields.now in
    let limited = sizes_limited c.args.sizes.now (length fields) c.args.lanes c.in_default.ensures in
    record {
      parts = limited.some;
      some = limited.least;
      fit = limited.most;
      keyed = λ i below. subst (λ n. 1 ≤ n) (number_at fields i below)
          (c.requires.keyed i 0 below).0;
    }

pub open_forest-requires-clause-room : goal.open_forest-requires-clause-room
open_forest-requires-clause-room c = (sizes_limited c.args.sizes.now (length c.args.fields.now)
    c.args.lanes c.in_default.ensures).room

pub open_forest-requires-clause-cells : goal.open_forest-requires-clause-cells
open_forest-requires-clause-cells c = (sizes_limited c.args.sizes.now (length c.args.fields.now)
    c.args.lanes c.in_default.ensures).cells

pub open_learner-requires-clause-keyed : goal.open_learner-requires-clause-keyed
open_learner-requires-clause-keyed c = c.requires.keyed

pub invariant_of-engine-clause-forest : goal.invariant_of-engine-clause-forest
invariant_of-engine-clause-forest c = let terms = c.in_ok-space.ensures.terms in record {
  objects = subst (λ (t : Terms Shape). t.objects ≡ frame_id t.shape (frames_of t.shape))
      (sym terms) refl;
  lists = subst (λ (t : Terms Shape). t.indexes ≡ t.shape.indexes) (sym terms) refl;
}

pub invariant_of-engine-clause-few : goal.invariant_of-engine-clause-few
invariant_of-engine-clause-few c = subst (λ (t : Terms Shape). t.shape.pages ≤ 65536)
    (sym c.in_ok-space.ensures.terms) (sizes_limited c.args.sizes.now (length c.args.fields.now)
    c.args.lanes c.in_default.ensures).pages

pub invariant_of-engine-clause-learns : goal.invariant_of-engine-clause-learns
invariant_of-engine-clause-learns c = let fields = c.args.fields.now in
    let terms = c.in_ok-space.ensures.terms in
    knows_first c.in_ok-learner.learner c.in_ok-space.space.terms.shape fields c.args.lanes
    c.in_ok-learner.ensures.opening (ap (λ (t : Terms Shape). t.shape.fields) terms)
    (ap (λ (t : Terms Shape). t.shape.indexes) terms)

pub returns-in-Some-clause-refused : goal.returns-in-Some-clause-refused
returns-in-Some-clause-refused c = of_its_value _ _ c.in-Some.setting c.in-Some.ensures refl

pub returns-clause-refused : goal.returns-clause-refused
returns-clause-refused c = of_no_value _ _ c.in_default.ensures

pub invariant_of-pass : goal.invariant_of-pass
invariant_of-pass c = let first = c.in_ok-space.ensures.first.0 in
    let terms = c.in_ok-space.ensures.terms in let untaught = c.in_ok-learner.ensures.untaught in
    record {
      nothing = c.in_ok-space.ensures.first.1;
      most = sym (ap (λ (v : View). v.terms.max_changes) first
          ∙ ap (λ (t : Terms Shape). t.max_changes) terms);
      low = ap (λ (k : Knows). k.low) untaught ∙ sym (ap (λ (v : View). v.low) first);
      end = ap (λ (k : Knows). k.end) untaught
          ∙ sym (ap (λ (v : View). v.end) first ∙ ap (λ (t : Terms Shape). t.passes) terms);
    }

pub returns-clause-ok : goal.returns-clause-ok
returns-clause-ok c = (
  (c.in_ok-space.ensures.own, c.in_ok-learner.ensures.own),
  refl,
  c.in_ok-space.ensures.first.0
      ∙ ap (λ (t : Terms Shape). first_view t) c.in_ok-space.ensures.terms,
)
