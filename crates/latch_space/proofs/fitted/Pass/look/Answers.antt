use Rattle.std.proofs.Common.{ap, ◌∙◌, sym}
use lib.ListN.{get_elem?}
use Rattle.latch_space.specs.Passes.{values}
use Rattle.latch_space.proofs.fitted.Pass.look.Goals as goal

pub look-requires : goal.look-requires
look-requires g c = record { shown = rw c.self.view_is c.requires }

pub returns : goal.returns
returns g c = ap (λ z. get_elem? (values z) c.args.object) (sym c.self.view_is) ∙ c.look.ensures
