use Rattle.std.proofs.Common.{◌≡◌, ◌∙◌, ◌%◌, ◌^◌, ℕ, List, fold, take, ap}
use Rattle.key_tuple.specs.Fold.{hash_byte, fold_of, next_bytes}
use Rattle.key_tuple.proofs.FoldLemmas.{prefix_hash, one_more_field}
use Rattle.key_tuple.proofs.folding.fold.Goals as goal
use Rattle.key_tuple.proofs.folding.fold.Goals.{then-params-eq0, else-params-eq0}

pub returns : goal.returns
unfolding fold_of
returns g c =
    let fields = g.A.Fields.fields_of c.args.fields.now in
    let params = c.args.params.now in
    let whole = c.hash_fields-whole.result in
    let start = ap (λ (bytes : List ℕ). fold hash_byte 0xcbf29ce484222325 bytes) c.to_be_bytes.ensures in
    let next : c.if-params-eq0.hash ≡ fold hash_byte whole (next_bytes fields params) = elim c.if-params-eq0.branch [
      | then-params-eq0 w ↦ rw w.if-params-eq0.true w.hash-is
      | else-params-eq0 w ↦
          let bytes = w.first_bytes.ensures ∙ ap (λ (field : List ℕ). take params.bytes field) w.field.ensures.bytes in
          w.hash-is ∙ w.hash_bytes-hash.ensures ∙ ap (λ (more : List ℕ). fold hash_byte whole more) bytes
    ] in
    let hash = prefix_hash c.args.index fields params _ _ _ (c.hash_bytes-start.ensures ∙ start) c.hash_fields-whole.ensures next in
    c.low_bits.ensures ∙ ap (λ (n : ℕ). n % 2 ^ c.args.bits) hash

pub field-requires : goal.field-requires
field-requires g c = one_more_field c.args.params.now _ c.if-params-eq0.false c.requires.asked
