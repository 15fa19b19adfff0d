-- The form of both words comes before their lengths.
use Rattle.std.proofs.Common.{◌≡◌, ℕ, List, Some, Ok, refl, sym, ◌∙◌}
use Rattle.std.proofs.lemmas.Result.{err_from_is_err_and}
use Rattle.key_tuple.specs.Order.{FieldList}
use Rattle.script.specs.Grammar.{both, field_of, key_spelled, short_key, short_value}
use Rattle.script.specs.Lane.{row_parts}
use Rattle.script.specs.Pieces.{pieces_left}
use Rattle.script.specs.Steps.{◌>>=◌, or_bad}
use Rattle.script.specs.Views.{text_fields}
use Rattle.script.proofs.Results.{fails_first}
use Rattle.script.proofs.rows.read_row.Goals as goal

-- once the key has its form
key_formed : (n : ℕ) (parts : List (List ℕ)) (key value : List ℕ) (fields : FieldList) → Some (key, value) ≡ both parts → or_bad (key_spelled n key) ≡ Ok fields
    → row_parts n parts ≡ (or_bad (field_of value) >>= λ (bytes : List ℕ). short_key fields >>= λ (k : FieldList). short_value bytes >>= λ (v : List ℕ). Ok (k, v))
key_formed n parts key value fields two formed = rw (sym two, formed) refl

-- once both have
both_formed : (n : ℕ) (parts : List (List ℕ)) (key value bytes : List ℕ) (fields : FieldList) → Some (key, value) ≡ both parts → or_bad (key_spelled n key) ≡ Ok fields → or_bad (field_of value) ≡ Ok bytes
    → row_parts n parts ≡ (short_key fields >>= λ (k : FieldList). short_value bytes >>= λ (v : List ℕ). Ok (k, v))
both_formed n parts key value bytes fields two first second = key_formed n parts key value fields two first ∙ rw second refl

pub returns-in_err-bytes : goal.returns-in_err-bytes
returns-in_err-bytes c =
    let p = err_from_is_err_and c.from_residual-in_err-bytes.result c.from_residual-in_err-bytes.ensures.1 in
    let formed = key_formed c.args.count (pieces_left c.args.words) c.in-Some.key.now c.in-Some.value.now (text_fields c.in_ok-text.text) c.in-Some.ensures c.in_ok-text.ensures.fields in
    rw (p.1, p.2, formed) (fails_first c.in_err-bytes.field-0.0 (or_bad (field_of c.in-Some.value.now)) _ c.in_err-bytes.ensures)

pub returns-in_err-key : goal.returns-in_err-key
returns-in_err-key c =
    let p = err_from_is_err_and c.from_residual-in_err-key.result c.from_residual-in_err-key.ensures.1 in
    let fields = text_fields c.in_ok-text.text in
    let formed = both_formed c.args.count (pieces_left c.args.words) c.in-Some.key.now c.in-Some.value.now c.in_ok-bytes.bytes.items fields c.in-Some.ensures c.in_ok-text.ensures.fields c.in_ok-bytes.ensures in
    rw (p.1, p.2, formed) (fails_first c.in_err-key.field-0.0 (short_key fields) _ c.in_err-key.ensures)

pub returns-in_err-value : goal.returns-in_err-value
returns-in_err-value c =
    let p = err_from_is_err_and c.from_residual-in_err-value.result c.from_residual-in_err-value.ensures.1 in
    let fields = text_fields c.in_ok-text.text in
    let formed = both_formed c.args.count (pieces_left c.args.words) c.in-Some.key.now c.in-Some.value.now c.in_ok-bytes.bytes.items fields c.in-Some.ensures c.in_ok-text.ensures.fields c.in_ok-bytes.ensures in
    rw (p.1, p.2, formed, c.in_ok-key.ensures) (fails_first c.in_err-value.field-0.0 (short_value c.in_ok-bytes.bytes.items) _ c.in_err-value.ensures)

pub returns : goal.returns
returns c =
    let fields = text_fields c.in_ok-text.text in
    let formed = both_formed c.args.count (pieces_left c.args.words) c.in-Some.key.now c.in-Some.value.now c.in_ok-bytes.bytes.items fields c.in-Some.ensures c.in_ok-text.ensures.fields c.in_ok-bytes.ensures in
    formed ∙ rw (c.in_ok-key.ensures, c.in_ok-value.ensures) refl
