use Rattle.std.proofs.Common.{[], ◌∷◌, ◌∙◌, sym, ap, subst}
use Rattle.latch_law.specs.declared.knows.Terms.{Terms}
use Rattle.latch_space.specs.Passes.{view}
use Rattle.index_law.specs.Shape.{Shape}
use Rattle.forest_world.specs.Held.{shape_of_pass}
use Rattle.buffer_pool.proofs.AgainLemmas.{passes_both}
use Rattle.index_seeks.specs.SeekSteps.{StandsThen, EndsSeek}
use Rattle.engine_law.proofs.KnownLemmas.{knows_same, page_number}
use Rattle.tree_neighbours.proofs.HandLemmas.{gave_page, only_same, only_gave, page_same, page_gave, may_leave}
use Rattle.index_seeks.proofs.SeekTraceLemmas.{said_then_first, first_then_gave, first_then_on}
use Rattle.index_seeks.proofs.StandLemmas.{both_stands}
use Rattle.index_seeks.proofs.StepLemmas.{walks_at, past_gave}
use Rattle.index_seeks.proofs.seek_call.SeekCall.go_beside.Goals as goal

pub stand_on-stand-requires-clause-stands : goal.stand_on-stand-requires-clause-stands
stand_on-stand-requires-clause-stands g c = let call = c.args.self.now in
    both_stands c.args.pass.now call.index call.mode call.tuple.now.fields c.args.leaf.now c.args.other
    c.requires.held

pub leave-requires-clause-held : goal.leave-requires-clause-held
leave-requires-clause-held g c = let p = c.args.pass.now in let q = c.stand_on-stand.new.pass in
    let both = c.requires.held in let b = c.args.leaf.now.block in let m = c.args.other in
    let terms = c.stand_on-stand.ensures.own.1.1 ∙ sym c.requires.own.1 in
    let kept = c.stand_on-stand.ensures.kept in
    may_leave q (b ∷ m ∷ []) b c.args.self.now.index both.frame
    (only_same p q (b ∷ m ∷ []) both.only kept terms)
    (knows_same p q b both.frame kept.held terms both.knows) both.is.page.is

pub walk-requires-clause-walks : goal.walk-requires-clause-walks
walk-requires-clause-walks g c = let call = c.args.self.now in let p = c.args.pass.now in
    let q = c.stand_on-stand.new.pass in let r = c.leave.new.pass in
    let both = c.requires.held in let b = c.args.leaf.now.block in let m = c.args.other in
    let terms = c.stand_on-stand.ensures.own.1.1 ∙ sym c.requires.own.1 in
    let kept = c.stand_on-stand.ensures.kept in let gave = c.leave.ensures.gave in
    let on = subst
    (λ s. StandsThen p q m call.index call.mode call.tuple.now.fields s c.stand_on-stand.new.out)
    c.in-On.is c.stand_on-stand.ensures.then in
    walks_at r call.index call.mode call.tuple.now.fields c.in-On.walk m on.0
    (only_gave q r b (m ∷ []) (only_same p q (b ∷ m ∷ []) both.only kept terms) gave)
    (page_gave q r call.index b m both.beside.other gave
    (page_same p q call.index m kept terms
    (both_stands p call.index call.mode call.tuple.now.fields c.args.leaf.now m both).holds))
    (past_gave q r b m call.index c.in-On.walk.point call.mode call.tuple.now.fields both.beside.other
    gave on.2)

pub returns-in-On-clause-ends : goal.returns-in-On-clause-ends
returns-in-On-clause-ends g c = let call = c.args.self.now in let p = c.args.pass.now in
    let q = c.stand_on-stand.new.pass in let r = c.leave.new.pass in
    let v' = view c.walk.new.pass in let b = c.args.leaf.now.block in
    let both = c.requires.held in
    let m = c.args.other in
    let terms = c.stand_on-stand.ensures.own.1.1 ∙ sym c.requires.own.1 in
    let on = subst
    (λ s. StandsThen p q m call.index call.mode call.tuple.now.fields s c.stand_on-stand.new.out)
    c.in-On.is c.stand_on-stand.ensures.then in
    first_then_on (shape_of_pass p) call.index q r b (ap (λ (t : Terms Shape). t.shape) terms)
    c.leave.ensures.gave call.mode call.tuple.now.fields c.walk.result c.walk.new.out (view p) v' on.1
    c.stand_on-stand.ensures.kept.held
    (subst
    (λ s. EndsSeek s (view r) v' call.index call.mode call.tuple.now.fields c.walk.result
    c.walk.new.out)
    (ap (λ (t : Terms Shape). t.shape) (c.leave.ensures.own.1.1 ∙ sym c.requires.own.1))
    c.walk.ensures.ends)
    both.frame both.is.page.is.page.head.number
    (page_number both.frame call.index 0 both.is.page.is) both.knows
    (knows_same p q b both.frame c.stand_on-stand.ensures.kept.held terms both.knows)

pub returns-in-Ends-clause-nothing : goal.returns-in-Ends-clause-nothing
returns-in-Ends-clause-nothing g c = let p = c.args.pass.now in
    let q = c.stand_on-stand.new.pass in let r = c.leave.new.pass in
    let both = c.requires.held in let b = c.args.leaf.now.block in let m = c.args.other in
    let terms = c.stand_on-stand.ensures.own.1.1 ∙ sym c.requires.own.1 in
    let kept = c.stand_on-stand.ensures.kept in
    (only_gave r c.leave-in-Ends.new.pass m []
    (only_gave q r b (m ∷ []) (only_same p q (b ∷ m ∷ []) both.only kept terms)
    c.leave.ensures.gave) c.leave-in-Ends.ensures.gave).count

pub returns-in-Ends-clause-ends : goal.returns-in-Ends-clause-ends
returns-in-Ends-clause-ends g c = let call = c.args.self.now in let p = c.args.pass.now in
    let q = c.stand_on-stand.new.pass in let r = c.leave.new.pass in
    let both = c.requires.held in let b = c.args.leaf.now.block in let m = c.args.other in
    let terms = c.stand_on-stand.ensures.own.1.1 ∙ sym c.requires.own.1 in
    let kept = c.stand_on-stand.ensures.kept in let gave = c.leave.ensures.gave in
    let holds = page_gave q r call.index b m both.beside.other gave
    (page_same p q call.index m kept terms
    (both_stands p call.index call.mode call.tuple.now.fields c.args.leaf.now m both).holds) in
    let gave2 = c.leave-in-Ends.ensures.gave in let out = c.stand_on-stand.new.out in
    first_then_gave (shape_of_pass p) call.index r c.leave-in-Ends.new.pass m
    (ap (λ (t : Terms Shape). t.shape) (c.leave.ensures.own.1.1 ∙ sym c.requires.own.1)) gave2
    call.mode call.tuple.now.fields c.in-Ends.told out (view p) b
    (said_then_first (shape_of_pass p) call.index q r b (ap (λ (t : Terms Shape). t.shape) terms)
    gave call.mode call.tuple.now.fields c.in-Ends.told out (view p)
    (subst (λ s. StandsThen p q m call.index call.mode call.tuple.now.fields s out) c.in-Ends.is
    c.stand_on-stand.ensures.then) kept.held
    both.frame both.is.page.is.page.head.number
    (page_number both.frame call.index 0 both.is.page.is) both.knows
    (knows_same p q b both.frame kept.held terms both.knows))
    (gave_page r c.leave-in-Ends.new.pass m call.index holds.frame holds.knows holds.is gave2)

pub leave-requires-in-Ends-clause-held : goal.leave-requires-in-Ends-clause-held
leave-requires-in-Ends-clause-held g c = let call = c.args.self.now in let p = c.args.pass.now in
    let q = c.stand_on-stand.new.pass in let r = c.leave.new.pass in
    let both = c.requires.held in let b = c.args.leaf.now.block in let m = c.args.other in
    let terms = c.stand_on-stand.ensures.own.1.1 ∙ sym c.requires.own.1 in
    let kept = c.stand_on-stand.ensures.kept in let gave = c.leave.ensures.gave in
    let holds = page_gave q r call.index b m both.beside.other gave
    (page_same p q call.index m kept terms
    (both_stands p call.index call.mode call.tuple.now.fields c.args.leaf.now m both).holds) in
    may_leave r (m ∷ []) m call.index holds.frame
    (only_gave q r b (m ∷ []) (only_same p q (b ∷ m ∷ []) both.only kept terms) gave)
    holds.knows holds.is

pub returns-in-On-clause-own : goal.returns-in-On-clause-own
returns-in-On-clause-own g c = (
  passes_both c.args.pass.now c.stand_on-stand.new.pass c.walk.new.pass c.stand_on-stand.ensures.own.0 (passes_both c.stand_on-stand.new.pass c.leave.new.pass c.walk.new.pass c.leave.ensures.own.0 c.walk.ensures.own.0),
  c.walk.ensures.own.1,
)

pub returns-in-Ends-clause-own : goal.returns-in-Ends-clause-own
returns-in-Ends-clause-own g c = (
  passes_both c.args.pass.now c.stand_on-stand.new.pass c.leave-in-Ends.new.pass c.stand_on-stand.ensures.own.0 (passes_both c.stand_on-stand.new.pass c.leave.new.pass c.leave-in-Ends.new.pass c.leave.ensures.own.0 c.leave-in-Ends.ensures.own.0),
  c.leave-in-Ends.ensures.own.1,
)

pub returns-in-On-clause-nothing : goal.returns-in-On-clause-nothing
returns-in-On-clause-nothing g c = c.walk.ensures.nothing

pub returns-in-On-clause-columns : goal.returns-in-On-clause-columns
returns-in-On-clause-columns g c = c.walk.ensures.columns
