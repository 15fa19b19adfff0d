use Rattle.std.proofs.Common.{◌%◌, ap}
use Rattle.index_law.specs.Shape.{Shape}
use Rattle.forest_law.proofs.layout.ForestLayout.part_for.Goals as goal

pub returns : goal.returns
returns c = ap (λ (z : Shape). c.args.index % z.parts) c.self.view_is
