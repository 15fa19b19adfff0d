use Rattle.std.proofs.Common.{ap, ◌∙◌, set, Some}
use lib.ListN.{get_elem?}
use Rattle.latch_space.specs.Hands.{is_held}
use Rattle.latch_space.specs.Passes.{view, values, count}
use Rattle.latch_space.proofs.Seats.{fitted_from}
use Rattle.latch_space.proofs.fitted.Pass.put_back.Goals as goal

pub put_back-requires-clause-held : goal.put_back-requires-clause-held
put_back-requires-clause-held g c = ap (λ z. is_held (view z).held c.args.object) c.self.view_is ∙ c.requires.held

pub put_back-requires-clause-out : goal.put_back-requires-clause-out
put_back-requires-clause-out g c = ap (λ z. get_elem? (values z) c.args.object) c.self.view_is ∙ c.requires.out

pub invariant_of-self : goal.invariant_of-self
invariant_of-self g c = fitted_from g.W.World.lawful g.W.World.answers g.W.World.refers _ _ (ap (λ z. z.me.0) c.put_back.ensures.seat.0) c.self.invariant

pub returns-clause-seat : goal.returns-clause-seat
returns-clause-seat g c = let e = c.put_back.ensures.seat in (e.0 ∙ ap (λ z. z.seat) c.self.view_is, e.1 ∙ ap count c.self.view_is)

pub returns-clause-values : goal.returns-clause-values
returns-clause-values g c = c.put_back.ensures.values ∙ ap (λ z. set (values z) c.args.object (Some c.args.value)) c.self.view_is
