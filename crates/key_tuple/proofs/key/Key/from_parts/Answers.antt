-- There are as many fields as offsets.
use Rattle.std.proofs.Common.{◌≡◌, length, ap, ◌∙◌, arith}
use Rattle.key_tuple.proofs.PartsLemmas.{length-parts}
use Rattle.key_tuple.specs.Limits.{refusal_of}
use Rattle.key_tuple.specs.Parts.{parts}
use Rattle.key_tuple.proofs.CopyLemmas.{nothing_told}
use Rattle.key_tuple.proofs.key.Key.from_parts.Goals as goal

pub invariant_of-result : goal.invariant_of-result
invariant_of-result c =
    let count : length c.in_ok-tuple.tuple.fields ≡ length c.args.ends.now = ap length c.in_ok-tuple.ensures.ok ∙ length-parts c.args.bytes.items 0 c.args.ends.now in
    record { some = omega (arith, c.requires.some); few = omega arith; roomy = λ more. absurd (omega (arith, more)) }

pub returns-clause-refused : goal.returns-clause-refused
returns-clause-refused c = nothing_told (refusal_of (parts c.args.bytes.items 0 c.args.ends.now)) c.in_ok-tuple.tuple _
    c.in_ok-tuple.ensures.refused
