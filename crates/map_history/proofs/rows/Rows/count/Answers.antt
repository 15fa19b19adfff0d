use Rattle.std.proofs.Common.{length, ap, arith}
use Rattle.map_history.specs.Map.{Map}
use Rattle.map_history.proofs.RowsLemmas.{length-rows}
use Rattle.map_history.proofs.rows.Rows.count.Goals as goal

pub returns : goal.returns
returns c =
    let view = ap (λ (m : Map). length m) c.self.view_is in
    let many = length-rows c.self.inside.parts c.self.inside.ends.items in
    omega (arith, c.len.ensures, c.self.inside.ends.ok.0)
