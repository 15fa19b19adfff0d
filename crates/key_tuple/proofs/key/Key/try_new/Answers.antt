use Rattle.std.proofs.Common.{◌≡◌, length, ap, ◌∙◌, arith}
use Rattle.std.proofs.lemmas.List.{length-map}
use Rattle.key_tuple.proofs.CopyLemmas.{bytes_of, neither_told}
use Rattle.key_tuple.specs.Limits.{refusal_of}
use Rattle.key_tuple.proofs.key.Key.try_new.Goals as goal

pub invariant_of-result : goal.invariant_of-result
invariant_of-result c =
    let count : length c.in_ok-tuple.tuple.fields ≡ length c.args.fields.items = ap length c.in_ok-tuple.ensures.ok ∙ length-map c.args.fields.items (λ f. f.items) in
    record { some = omega (arith, count, c.requires); few = omega arith; roomy = λ more. absurd (omega (arith, more)) }

pub returns-clause-refused : goal.returns-clause-refused
returns-clause-refused c = neither_told (refusal_of (bytes_of c.args.fields.items)) c.in_ok-tuple.tuple _
    c.in_ok-tuple.ensures.refused
