use Rattle.std.proofs.Common.{◌≡◌, ◌+◌, ◌∙◌, List, [], ◌∷◌, length, sym, refl, subst}
use mathlib.Core.Option.{some}
use lib.ListN.{get_elem?}
use Rattle.lane_threads.specs.Engine.{EnginePass}
use Rattle.lane_threads.proofs.ListLemmas.{at_length, after_length, taken_off}
use Rattle.lane_threads.proofs.GatherLemmas.{gathers_one, gathers_more}
use Rattle.lane_threads.proofs.gathering.gather.Goals as goal

-- src/gathering.rt:15:5
pub loop-lower-init : goal.loop-lower-init
loop-lower-init c = let last = c.in_ok-whole.whole in let left = c.pop.new.self.items in let parts = c.in_ok-whole.ensures.items in record {
  first = last;
  others = [];
  parts = parts;
  gathers = gathers_one c.args.engine.now last (c.requires.own (length left) last (subst (λ (ps : List EnginePass). get_elem? ps (length left) ≡ some last) (sym parts) (at_length left last [])));
}

-- src/gathering.rt:16:9
pub join-requires-clause-own : goal.join-requires-clause-own
join-requires-clause-own c = let so_far = c.loop-lower.invariant in let lower = c.in-Some.lower in let left = c.pop-in-loop-lower.new.self.items in
    let parts = taken_off c.args.passes.items left c.loop-lower.passes.items lower (so_far.first ∷ so_far.others) so_far.parts c.in-Some.ensures.items in
    c.requires.own (length left) lower (subst (λ (ps : List EnginePass). get_elem? ps (length left) ≡ some lower) (sym parts) (at_length left lower (so_far.first ∷ so_far.others)))

-- src/gathering.rt:16:9
pub join-requires-clause-next : goal.join-requires-clause-next
join-requires-clause-next c = let so_far = c.loop-lower.invariant in let lower = c.in-Some.lower in let left = c.pop-in-loop-lower.new.self.items in
    let parts = taken_off c.args.passes.items left c.loop-lower.passes.items lower (so_far.first ∷ so_far.others) so_far.parts c.in-Some.ensures.items in
    c.requires.row (length left) lower so_far.first (subst (λ (ps : List EnginePass). get_elem? ps (length left) ≡ some lower) (sym parts) (at_length left lower (so_far.first ∷ so_far.others)))
    (subst (λ (ps : List EnginePass). get_elem? ps (length left + 1) ≡ some so_far.first) (sym parts) (after_length left lower so_far.first so_far.others)) ∙ sym (so_far.gathers.low so_far.first refl)

-- src/gathering.rt:15:5
pub loop-lower-preserved : goal.loop-lower-preserved
loop-lower-preserved c = let so_far = c.loop-lower.invariant in let lower = c.in-Some.lower in record {
  first = lower;
  others = so_far.first ∷ so_far.others;
  parts = taken_off c.args.passes.items c.pop-in-loop-lower.new.self.items c.loop-lower.passes.items lower (so_far.first ∷ so_far.others) so_far.parts c.in-Some.ensures.items;
  gathers = gathers_more c.args.engine.now lower c.join.new.pass so_far.first so_far.others c.loop-lower.whole c.join.ensures.own.1 c.join.ensures.own.0.sizes c.join.ensures.joined c.join.ensures.taught so_far.gathers;
}
