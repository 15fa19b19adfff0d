use Rattle.std.proofs.Common.{ap, ◌∙◌, sym, set, None}
use lib.ListN.{get_elem?}
use Rattle.latch_space.specs.Passes.{values, count}
use Rattle.latch_space.proofs.Seats.{fitted_from}
use Rattle.latch_space.proofs.fitted.Pass.take_out.Goals as goal

pub take_out-requires : goal.take_out-requires
take_out-requires g c = record { shown = rw c.self.view_is c.requires }

pub invariant_of-self : goal.invariant_of-self
invariant_of-self g c = fitted_from g.W.World.lawful g.W.World.answers g.W.World.refers _ _ (ap (λ z. z.me.0) c.take_out.ensures.seat.0) c.self.invariant

pub returns-clause-value : goal.returns-clause-value
returns-clause-value g c = ap (λ z. get_elem? (values z) c.args.object) (sym c.self.view_is) ∙ c.take_out.ensures.value

pub returns-clause-seat : goal.returns-clause-seat
returns-clause-seat g c = let e = c.take_out.ensures.seat in (e.0 ∙ ap (λ z. z.seat) c.self.view_is, e.1 ∙ ap count c.self.view_is)

pub returns-clause-values : goal.returns-clause-values
returns-clause-values g c = c.take_out.ensures.values ∙ ap (λ z. set (values z) c.args.object None) c.self.view_is
