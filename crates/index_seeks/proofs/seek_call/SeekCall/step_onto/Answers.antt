use Rattle.std.proofs.Common.{[], ◌∷◌, ◌∙◌, sym, ap, subst}
use Rattle.latch_law.specs.declared.knows.Terms.{Terms}
use Rattle.latch_space.specs.Passes.{view}
use Rattle.index_law.specs.Shape.{Shape}
use Rattle.forest_world.specs.Held.{shape_of_pass}
use Rattle.buffer_pool.proofs.AgainLemmas.{passes_both}
use Rattle.index_seeks.specs.SeekSteps.{StandsThen}
use Rattle.tree_neighbours.proofs.HandLemmas.{gave_page, only_same, only_gave, page_same, may_leave}
use Rattle.index_seeks.proofs.SeekTraceLemmas.{said_then_gave}
use Rattle.index_seeks.proofs.StepLemmas.{stands_walk}
use Rattle.index_seeks.proofs.seek_call.SeekCall.step_onto.Goals as goal

pub returns-in-On-clause-then : goal.returns-in-On-clause-then
returns-in-On-clause-then g c = let call = c.args.self.now in let p = c.args.pass.now in
    let q = c.stand_on.new.pass in let b = c.args.block in
    let terms = c.stand_on.ensures.own.1.1 ∙ sym c.requires.own.1 in
    stands_walk p q b call.index call.mode call.tuple.now.fields c.in-On.walk c.stand_on.ensures.kept
    terms c.requires.only c.requires.stands.holds
    (subst
    (λ s. StandsThen p q b call.index call.mode call.tuple.now.fields s c.stand_on.new.out)
    c.in-On.is c.stand_on.ensures.then)

pub leave-requires-clause-held : goal.leave-requires-clause-held
leave-requires-clause-held g c = let call = c.args.self.now in let p = c.args.pass.now in
    let q = c.stand_on.new.pass in let b = c.args.block in
    let terms = c.stand_on.ensures.own.1.1 ∙ sym c.requires.own.1 in
    let holds = page_same p q call.index b c.stand_on.ensures.kept terms
    c.requires.stands.holds in
    may_leave q (b ∷ []) b call.index holds.frame
    (only_same p q (b ∷ []) c.requires.only c.stand_on.ensures.kept terms) holds.knows holds.is

pub returns-in-Ends-clause-then : goal.returns-in-Ends-clause-then
returns-in-Ends-clause-then g c = let call = c.args.self.now in let p = c.args.pass.now in
    let q = c.stand_on.new.pass in let r = c.leave.new.pass in let b = c.args.block in
    let terms = c.stand_on.ensures.own.1.1 ∙ sym c.requires.own.1 in
    let holds = page_same p q call.index b c.stand_on.ensures.kept terms
    c.requires.stands.holds in
    let gave = c.leave.ensures.gave in (
      (only_gave q r b []
          (only_same p q (b ∷ []) c.requires.only c.stand_on.ensures.kept terms) gave).count,
      said_then_gave (shape_of_pass p) call.index q r b (ap (λ (t : Terms Shape). t.shape) terms)
          gave call.mode call.tuple.now.fields c.in-Ends.told c.stand_on.new.out (view p)
          (subst
          (λ s. StandsThen p q b call.index call.mode call.tuple.now.fields s c.stand_on.new.out)
          c.in-Ends.is c.stand_on.ensures.then) c.stand_on.ensures.kept.held
          (gave_page q r b call.index holds.frame holds.knows holds.is gave),
    )

pub returns-in-Ends-clause-own : goal.returns-in-Ends-clause-own
returns-in-Ends-clause-own g c = (
  passes_both c.args.pass.now c.stand_on.new.pass c.leave.new.pass c.stand_on.ensures.own.0 c.leave.ensures.own.0,
  c.leave.ensures.own.1,
)

pub returns-in-On-clause-own : goal.returns-in-On-clause-own
returns-in-On-clause-own g c = c.stand_on.ensures.own
