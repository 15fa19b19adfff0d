-- A tuple is a key where it has as many fields.
use Rattle.std.proofs.Common.{◌∙◌, sym, arith}
use Rattle.key_tuple.specs.Parts.{parts}
use Rattle.key_tuple.proofs.PartsLemmas.{length-parts}
use Rattle.script.specs.Grammar.{tuple_of}
use Rattle.script.proofs.KeyFields.{as_many, too_few}
use Rattle.script.proofs.rows.key_text.Goals as goal

pub returns-then-len-from-clause-fields : goal.returns-then-len-from-clause-fields
returns-then-len-from-clause-fields c =
    let text = c.in_ok-text.text in
    too_few c.args.count (tuple_of c.args.word.now) (parts text.bytes.items 0 text.ends.items) c.in_ok-text.ensures.fields
    (λ same. absurd (omega (arith, c.if-len-from.true, sym (length-parts text.bytes.items 0 text.ends.items) ∙ same)))

pub returns-clause-fields : goal.returns-clause-fields
returns-clause-fields c =
    let text = c.in_ok-text.text in
    as_many c.args.count (tuple_of c.args.word.now) (parts text.bytes.items 0 text.ends.items) c.in_ok-text.ensures.fields
    (length-parts text.bytes.items 0 text.ends.items ∙ omega arith)
