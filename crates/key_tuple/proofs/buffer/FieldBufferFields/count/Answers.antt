use Rattle.std.proofs.Common.{length, ap, ◌∙◌, sym, arith}
use Rattle.key_tuple.specs.Parts.{Buffered}
use Rattle.key_tuple.proofs.PartsLemmas.{length-view}
use Rattle.key_tuple.proofs.buffer.FieldBufferFields.count.Goals as goal

pub returns : goal.returns
returns c =
    let view = ap (λ (b : Buffered). length b.fields) c.self.view_is in
    sym (length-view c.self.inside.bytes.items c.self.inside.ends c.self.inside.count (omega (arith, c.self.invariant.offsets, c.self.invariant.few))) ∙ view
