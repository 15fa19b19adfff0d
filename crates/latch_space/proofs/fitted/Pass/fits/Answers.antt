use Rattle.latch_space.proofs.Seats.{fitted_from}
use Rattle.latch_space.specs.Passes.{view}
use Rattle.std.proofs.Common.{ap, sym}
use Rattle.latch_space.proofs.fitted.Pass.fits.Goals as goal

pub returns : goal.returns
returns g c = fitted_from g.W.World.lawful g.W.World.answers g.W.World.refers _ _ (ap view (sym c.self.view_is)) c.self.invariant
