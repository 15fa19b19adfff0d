use Rattle.std.proofs.Common.{[], ◌∷◌, ◌∙◌, sym, ap, subst}
use Rattle.latch_law.specs.declared.knows.Terms.{Terms}
use Rattle.index_law.specs.Shape.{Shape}
use Rattle.buffer_pool.proofs.AgainLemmas.{passes_both}
use Rattle.tree_neighbours.specs.Neighbours.{TellsBeside}
use Rattle.tree_neighbours.specs.declared.beside.Beside.TheVariants.{AtEnd, Held, Busy}
use Rattle.tree_neighbours.proofs.HandLemmas.{only_same, only_gave, page_same, may_leave}
use Rattle.index_seeks.proofs.StepLemmas.{walks_then, last_here, last_only, last_page, last_ends, busy_only, busy_knows, busy_ends, took_only, took_knows, next_only, next_passes, next_stands}
use Rattle.index_seeks.proofs.seek_call.SeekCall.step.Goals as goal

pub leave-requires-clause-held : goal.leave-requires-clause-held
leave-requires-clause-held g c = let call = c.args.self.now in let p = c.args.pass.now in
    let b = c.args.from.block in let m = c.in-Held.next in let q = c.take_beside.new.pass in
    let took = subst (λ s. TellsBeside p b call.index s (Held m) q) c.side_of-side.ensures
    (subst (λ r. TellsBeside p b call.index c.side_of-side.result r q) c.in-Held.is
    c.take_beside.ensures.tells) in
    let walks = c.requires.walks in
    may_leave q (b ∷ m ∷ []) b call.index took.holds.frame
    (took_only p call.index call.mode call.tuple.now.fields c.args.from walks m q took)
    (took_knows p call.index call.mode call.tuple.now.fields c.args.from walks m q took) took.holds.is

pub step_onto-requires-clause-only : goal.step_onto-requires-clause-only
step_onto-requires-clause-only g c = let call = c.args.self.now in let p = c.args.pass.now in
    let b = c.args.from.block in let m = c.in-Held.next in let q = c.take_beside.new.pass in
    let took = subst (λ s. TellsBeside p b call.index s (Held m) q) c.side_of-side.ensures
    (subst (λ r. TellsBeside p b call.index c.side_of-side.result r q) c.in-Held.is
    c.take_beside.ensures.tells) in
    next_only p call.index call.mode call.tuple.now.fields c.args.from c.requires.walks m q took
    c.leave.new.pass c.leave.ensures.gave

pub step_onto-requires-clause-stands : goal.step_onto-requires-clause-stands
step_onto-requires-clause-stands g c = let call = c.args.self.now in let p = c.args.pass.now in
    let b = c.args.from.block in let m = c.in-Held.next in let q = c.take_beside.new.pass in
    let took = subst (λ s. TellsBeside p b call.index s (Held m) q) c.side_of-side.ensures
    (subst (λ r. TellsBeside p b call.index c.side_of-side.result r q) c.in-Held.is
    c.take_beside.ensures.tells) in
    next_stands p call.index call.mode call.tuple.now.fields c.args.from c.requires.walks m q took
    c.leave.new.pass c.leave.ensures.gave

pub returns-in-Held-clause-then : goal.returns-in-Held-clause-then
returns-in-Held-clause-then g c = let call = c.args.self.now in let p = c.args.pass.now in
    let b = c.args.from.block in let m = c.in-Held.next in let q = c.take_beside.new.pass in
    let took = subst (λ s. TellsBeside p b call.index s (Held m) q) c.side_of-side.ensures
    (subst (λ r. TellsBeside p b call.index c.side_of-side.result r q) c.in-Held.is
    c.take_beside.ensures.tells) in
    walks_then p c.leave.new.pass c.step_onto.new.pass call.index call.mode call.tuple.now.fields
    c.step_onto.result c.step_onto.new.out
    (ap (λ (t : Terms Shape). t.shape) (c.leave.ensures.own.1.1 ∙ sym c.requires.own.1))
    (next_passes p call.index call.mode call.tuple.now.fields c.args.from c.requires.walks m q took
    c.leave.new.pass c.leave.ensures.gave) c.step_onto.ensures.then

pub tell-told-requires-clause-can : goal.tell-told-requires-clause-can
tell-told-requires-clause-can g c = let call = c.args.self.now in let p = c.args.pass.now in
    let b = c.args.from.block in let q = c.take_beside.new.pass in
    let last = subst (λ s. TellsBeside p b call.index s AtEnd q) c.side_of-side.ensures
    (subst (λ r. TellsBeside p b call.index c.side_of-side.result r q) c.in-AtEnd.is
    c.take_beside.ensures.tells) in
    last_here p call.index call.mode call.tuple.now.fields c.args.from c.requires.walks q last
    c.args.out.now

pub returns-in-AtEnd-clause-then : goal.returns-in-AtEnd-clause-then
returns-in-AtEnd-clause-then g c = let call = c.args.self.now in let p = c.args.pass.now in
    let b = c.args.from.block in let q = c.take_beside.new.pass in let r = c.tell-told.new.pass in
    let last = subst (λ s. TellsBeside p b call.index s AtEnd q) c.side_of-side.ensures
    (subst (λ r. TellsBeside p b call.index c.side_of-side.result r q) c.in-AtEnd.is
    c.take_beside.ensures.tells) in
    let terms = c.tell-told.ensures.own.1.1 ∙ sym c.take_beside.ensures.own.1.1 in
    let holds = page_same q r call.index b c.tell-told.ensures.kept terms
    (last_page p call.index call.mode call.tuple.now.fields c.args.from c.requires.walks q last) in (
      (only_gave r c.leave-in-AtEnd.new.pass b []
          (only_same q r (b ∷ [])
          (last_only p call.index call.mode call.tuple.now.fields c.args.from c.requires.walks q last)
          c.tell-told.ensures.kept terms) c.leave-in-AtEnd.ensures.gave).count,
      last_ends p call.index call.mode call.tuple.now.fields c.args.from c.requires.walks q last r
          c.leave-in-AtEnd.new.pass c.tell-told.result c.args.out.now c.tell-told.ensures.did
          c.tell-told.ensures.kept.held
          (ap (λ (t : Terms Shape). t.shape) (c.tell-told.ensures.own.1.1 ∙ sym c.requires.own.1))
          c.leave-in-AtEnd.ensures.gave holds,
    )

pub returns-in-Busy-clause-then : goal.returns-in-Busy-clause-then
returns-in-Busy-clause-then g c = let call = c.args.self.now in let p = c.args.pass.now in
    let b = c.args.from.block in let q = c.take_beside.new.pass in
    let busy = subst (λ s. TellsBeside p b call.index s Busy q) c.side_of-side.ensures
    (subst (λ r. TellsBeside p b call.index c.side_of-side.result r q) c.in-Busy.is
    c.take_beside.ensures.tells) in (
      (only_gave q c.leave-in-Busy.new.pass b []
          (busy_only p call.index call.mode call.tuple.now.fields c.args.from c.requires.walks q busy)
          c.leave-in-Busy.ensures.gave).count,
      busy_ends p call.index call.mode call.tuple.now.fields c.args.from c.requires.walks q busy
          c.leave-in-Busy.new.pass c.args.out.now c.leave-in-Busy.ensures.gave,
    )

pub leave-requires-in-AtEnd-clause-held : goal.leave-requires-in-AtEnd-clause-held
leave-requires-in-AtEnd-clause-held g c = let call = c.args.self.now in let p = c.args.pass.now in
    let b = c.args.from.block in let q = c.take_beside.new.pass in let r = c.tell-told.new.pass in
    let last = subst (λ s. TellsBeside p b call.index s AtEnd q) c.side_of-side.ensures
    (subst (λ r. TellsBeside p b call.index c.side_of-side.result r q) c.in-AtEnd.is
    c.take_beside.ensures.tells) in
    let terms = c.tell-told.ensures.own.1.1 ∙ sym c.take_beside.ensures.own.1.1 in
    let kept = c.tell-told.ensures.kept in
    let holds = page_same q r call.index b kept terms
    (last_page p call.index call.mode call.tuple.now.fields c.args.from c.requires.walks q last) in
    may_leave r (b ∷ []) b call.index holds.frame
    (only_same q r (b ∷ [])
    (last_only p call.index call.mode call.tuple.now.fields c.args.from c.requires.walks q last) kept
    terms) holds.knows holds.is

pub leave-requires-in-Busy-clause-held : goal.leave-requires-in-Busy-clause-held
leave-requires-in-Busy-clause-held g c = let call = c.args.self.now in let p = c.args.pass.now in
    let b = c.args.from.block in let q = c.take_beside.new.pass in let walks = c.requires.walks in
    let busy = subst (λ s. TellsBeside p b call.index s Busy q) c.side_of-side.ensures
    (subst (λ r. TellsBeside p b call.index c.side_of-side.result r q) c.in-Busy.is
    c.take_beside.ensures.tells) in
    may_leave q (b ∷ []) b call.index walks.holds.frame
    (busy_only p call.index call.mode call.tuple.now.fields c.args.from walks q busy)
    (busy_knows p call.index call.mode call.tuple.now.fields c.args.from walks q busy) walks.holds.is

pub returns-in-AtEnd-clause-own : goal.returns-in-AtEnd-clause-own
returns-in-AtEnd-clause-own g c = (
  passes_both c.args.pass.now c.take_beside.new.pass c.leave-in-AtEnd.new.pass c.take_beside.ensures.own.0 (passes_both c.take_beside.new.pass c.tell-told.new.pass c.leave-in-AtEnd.new.pass c.tell-told.ensures.own.0 c.leave-in-AtEnd.ensures.own.0),
  c.leave-in-AtEnd.ensures.own.1,
)

pub returns-in-Busy-clause-own : goal.returns-in-Busy-clause-own
returns-in-Busy-clause-own g c = (
  passes_both c.args.pass.now c.take_beside.new.pass c.leave-in-Busy.new.pass c.take_beside.ensures.own.0 c.leave-in-Busy.ensures.own.0,
  c.leave-in-Busy.ensures.own.1,
)

pub returns-in-Held-clause-own : goal.returns-in-Held-clause-own
returns-in-Held-clause-own g c = (
  passes_both c.args.pass.now c.take_beside.new.pass c.step_onto.new.pass c.take_beside.ensures.own.0 (passes_both c.take_beside.new.pass c.leave.new.pass c.step_onto.new.pass c.leave.ensures.own.0 c.step_onto.ensures.own.0),
  c.step_onto.ensures.own.1,
)

pub returns-in-Held-clause-columns : goal.returns-in-Held-clause-columns
returns-in-Held-clause-columns g c = c.step_onto.ensures.columns

pub returns-in-AtEnd-clause-columns : goal.returns-in-AtEnd-clause-columns
returns-in-AtEnd-clause-columns g c = c.tell-told.ensures.columns
