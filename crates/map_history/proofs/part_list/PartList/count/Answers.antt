use Rattle.std.proofs.Common.{length, ap, arith}
use Rattle.key_tuple.specs.Order.{FieldList}
use Rattle.key_tuple.proofs.PartsLemmas.{length-parts}
use Rattle.map_history.proofs.part_list.PartList.count.Goals as goal

pub returns : goal.returns
returns c =
    let view = ap (λ (p : FieldList). length p) c.self.view_is in
    let many = length-parts c.self.inside.bytes.items 0 c.self.inside.ends.items in
    omega (arith, c.len.ensures, c.self.inside.ends.ok.0)
