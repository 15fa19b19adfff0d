use Rattle.std.proofs.Common.{◌≡◌, ◌<◌, ℕ, [], length, fold, sym, ap, ◌∙◌, arith}
use Rattle.std.proofs.lemmas.List.Sums.{fold-append}
use Rattle.std.specs.Int.{bytes_high_first}
use Rattle.key_tuple.specs.Fold.{hash_byte, with_length}
use Rattle.key_tuple.proofs.FoldLemmas.{fold_flat_more}
use Rattle.key_tuple.proofs.folding.hash_fields.Goals as goal

pub loop-i-preserved : goal.loop-i-preserved
loop-i-preserved g c =
    let fields = g.A.Fields.fields_of c.args.fields.now in
    let field = c.field-field.result.now in
    let below : c.loop-i.i < length fields = omega (arith, c.loop-i-test.true, c.requires) in
    let first : c.hash_bytes-hash.result ≡ fold hash_byte c.loop-i.hash (bytes_high_first 2 (length field)) =
    c.hash_bytes-hash.ensures ∙ ap (fold hash_byte c.loop-i.hash) c.to_be_bytes.ensures in
    c.hash_bytes-hash-in-loop-i.ensures ∙ ap (λ (h : ℕ). fold hash_byte h field) first
    ∙ sym (fold-append hash_byte c.loop-i.hash (bytes_high_first 2 (length field)) field)
    ∙ (λ j. fold hash_byte (c.loop-i.invariant j) (with_length (c.field-field.ensures.bytes j)))
    ∙ sym (fold_flat_more hash_byte with_length c.args.start fields c.loop-i.i [] below)
