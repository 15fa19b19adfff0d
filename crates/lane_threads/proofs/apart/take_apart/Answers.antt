use Rattle.std.proofs.Common.{◌≡◌, List, [], ◌∷◌, ◌++◌, length, refl, ap, sym, ◌∙◌, subst, arith, append_assoc, append-nil}
use Rattle.std.specs.Vec.Iter.{into_iter_items}
use Rattle.lane_threads.specs.declared.doer.LaneDoer.{LaneDoer}
use Rattle.lane_threads.specs.Doing.{ArePartsOf}
use Rattle.lane_threads.proofs.apart.take_apart.Goals as goal

nothing_left : {X : Type 0} (xs : List X) → length xs ≡ 0 → xs ≡ []
nothing_left [] none = refl
nothing_left (x ∷ xs) none = absurd (omega arith)

pub loop-doer-init : goal.loop-doer-init
loop-doer-init c =
    let items = c.into_iter-doer-iterator.ensures.into_iter_gives.0 in
    let len = c.into_iter-doer-iterator.ensures.into_iter_gives.1 in
    let same = ap length items in
    record {
      rest = items;
      count = omega (arith, len, same);
      parts = record { done = []; all_done = refl; passes_are = c.new.ensures.items; texts_are = c.new-2.ensures.items; logs_are = c.new-3.ensures.items; counts_are = c.new-4.ensures.items };
    }

pub loop-doer-preserved : goal.loop-doer-preserved
loop-doer-preserved c =
    let so_far = c.loop-doer.invariant in
    let doer = c.in-Some.doer in
    let steps : into_iter_items c.loop-doer.doer-iterator ≡ doer ∷ into_iter_items c.next.new.self = c.in-Some.ensures.steps.0 in
    let count = so_far.count in
    let shorter = ap length steps in
    let len = c.in-Some.ensures.steps.1 in
    record {
      rest = append_assoc c.loop-doer.yielded (doer ∷ []) _ ∙ (ap (λ (ds : List LaneDoer). c.loop-doer.yielded ++ ds) (sym steps) ∙ so_far.rest);
      count = omega (arith, count, shorter, len);
      parts = c.in_ok-add.ensures c.loop-doer.yielded so_far.parts;
    }

pub returns : goal.returns
returns c =
    let so_far = c.loop-doer.invariant in
    let empty : into_iter_items c.loop-doer.doer-iterator ≡ [] = nothing_left _ (sym so_far.count ∙ c.in-None.ensures.steps.0) in
    let all : c.loop-doer.yielded ≡ c.args.doers.items = sym (append-nil c.loop-doer.yielded) ∙ (ap (λ (ds : List LaneDoer). c.loop-doer.yielded ++ ds) (sym empty) ∙ so_far.rest) in
    subst (λ (ds : List LaneDoer). ArePartsOf ds c.loop-doer.parts) all so_far.parts
