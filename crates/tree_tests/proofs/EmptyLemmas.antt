-- A pass that holds nothing.
use Rattle.std.proofs.Common.{◌≡◌, ℕ, suc, zero, Option, Some, None, List, [], ◌∷◌, map, sym, ap, ◌∙◌, refl, arith}
use mathlib.Core.Option.{some, some-ne-none}
use lib.ListN.{get_elem?}
use Rattle.list_facts.proofs.Places.{inside, not_both, none_is_not}
use Rattle.latch_space.specs.declared.space.SpaceOf.{SpaceOf}
use Rattle.latch_space.specs.Passes.{view, count, known_values}
use Rattle.latch_space.specs.Spaces.{IsPassOf}
use Rattle.latch_space.proofs.Pointwise.{lacks_each}
use Rattle.index_law.specs.Answers.{MadeChange, Saying}
use Rattle.index_law.specs.Shape.{Shape}
use Rattle.forest_law.specs.declared.objects.Object.{Object}
use Rattle.forest_law.specs.declared.objects.Object.TheVariants as object
use Rattle.forest_law.specs.Numbers.{pool_id, part_id, frame_id}
use Rattle.forest_law.specs.Outside.{HasNoneOutside}
use Rattle.forest_world.specs.Held.{TreePass, shape_of_pass}
use Rattle.call_law.specs.Hands.{HoldsNoTable}
use Rattle.buffer_pool.specs.Forests.{IsForest}
use Rattle.buffer_pool.specs.Pages.{HoldsOtherPages}
use Rattle.buffer_pool.proofs.SpaceLemmas.{objects_of}

-- where there is something after a map there was something before
mapped_back : {A B : Type 0} (f : Option A → Option B) → f None ≡ None → (xs : List (Option A))
    (k : ℕ) (y : B) → get_elem? (map f xs) k ≡ some (Some y)
    → (x : A) × (get_elem? xs k ≡ some (Some x))
mapped_back f e [] k y is = absurd (some-ne-none (Some y) (sym is))
mapped_back f e (Some x ∷ xs) zero y is = (x, refl)
mapped_back f e (None ∷ xs) zero y is = absurd (none_is_not y (ap some (sym e) ∙ is))
mapped_back f e (x ∷ xs) (suc k) y is = mapped_back f e xs k y is

-- no frame that it holds has the page
pub none_has_page : (p : TreePass) → count p ≡ 0 → (n : ℕ) → HoldsOtherPages (view p) n
none_has_page p none n b f page knows paged number =
    let k = frame_id (shape_of_pass p) b in
    let room = inside (view p).held k _ knows.1 in
    let all = p.all in
    not_both (view p).held k _ (lacks_each p k none (omega (arith, room, all.0))) knows.1

-- nor has one a page outside the trees
pub none_has_outside : (p : TreePass) → count p ≡ 0
    → HasNoneOutside (shape_of_pass p) (known_values p)
none_has_outside p none n o =
    let k = frame_id (shape_of_pass p) o.block in
    let h = mapped_back _ refl (view p).held k (object.Frame o.hand.frame) o.hand.at in
    let room = inside (view p).held k _ h.1 in
    let all = p.all in
    not_both (view p).held k _ (lacks_each p k none (omega (arith, room, all.0))) h.1

-- nor the pool, nor a partition
pub none_has_table : {Q : Type 0} (s : SpaceOf Shape Object MadeChange Saying Q) (p : TreePass)
    → IsForest s → IsPassOf s p → count p ≡ 0 → HoldsNoTable (view p)
none_has_table s p forest own nothing = let objects = objects_of s p forest own in record {
  pool = lacks_each p pool_id nothing (omega (arith, objects));
  parts = λ k below.
      lacks_each p (part_id (shape_of_pass p) k) nothing (omega (arith, objects, below));
}
