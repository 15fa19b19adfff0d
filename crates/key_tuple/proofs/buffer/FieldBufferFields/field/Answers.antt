use Rattle.std.proofs.Common.{length, ap, arith, length-take}
use Rattle.key_tuple.specs.Parts.{Buffered}
use Rattle.key_tuple.proofs.PartsLemmas.{length-view}
use Rattle.key_tuple.proofs.buffer.FieldBufferFields.field.Goals as goal

pub part-requires-clause-at : goal.part-requires-clause-at
part-requires-clause-at c =
    let view = ap (λ (b : Buffered). length b.fields) c.self.view_is in
    let fields = length-view c.self.inside.bytes.items c.self.inside.ends c.self.inside.count (omega (arith, c.self.invariant.offsets, c.self.invariant.few)) in
    let used = length-take c.self.inside.count c.self.inside.ends in
    rw c.from.ensures (omega (arith, c.self.invariant.offsets, c.self.invariant.few, c.from-2.ensures, c.requires))

pub returns-clause-fits : goal.returns-clause-fits
returns-clause-fits c = omega (arith, c.part.ensures.within, ap length c.deref.ensures.value, c.self.invariant.short)
