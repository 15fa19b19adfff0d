use Rattle.latch_space.specs.Passes.{count}
use Rattle.std.proofs.Common.{ap, ◌∙◌}
use Rattle.latch_space.proofs.fitted.Pass.into_seat.Goals as goal

pub returns : goal.returns
returns g c = let e = c.into_seat.ensures in let is = c.self.view_is in (e.0 ∙ ap (λ z. z.seat.table_id) is, e.1 ∙ ap (λ z. z.seat.id) is, e.2 ∙ ap (λ z. z.seat.me) is)

pub into_seat-requires : goal.into_seat-requires
into_seat-requires g c = record { nothing = ap count c.self.view_is ∙ c.requires.nothing }
