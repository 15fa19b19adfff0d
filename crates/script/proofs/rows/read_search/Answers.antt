-- The form of both words comes before the tuple's length.
use Rattle.std.proofs.Common.{◌≡◌, ℕ, List, Some, Ok, refl, sym}
use Rattle.std.proofs.lemmas.Result.{err_from_is_err_and}
use Rattle.key_tuple.specs.Order.{FieldList}
use Rattle.key_tuple.specs.declared.mode.Mode.{Mode}
use Rattle.script.specs.Grammar.{both, short_key, tuple_spelled}
use Rattle.script.specs.Lane.{mode_named, search_parts}
use Rattle.script.specs.Pieces.{pieces_left}
use Rattle.script.specs.Steps.{◌>>=◌, or_bad}
use Rattle.script.specs.Views.{text_fields}
use Rattle.script.proofs.Results.{fails_first}
use Rattle.script.proofs.rows.read_search.Goals as goal

both_formed : (n : ℕ) (parts : List (List ℕ)) (mode tuple : List ℕ) (by : Mode) (fields : FieldList) → Some (mode, tuple) ≡ both parts → Some by ≡ mode_named mode → or_bad (tuple_spelled n tuple) ≡ Ok fields
    → search_parts n parts ≡ (short_key fields >>= λ (short : FieldList). Ok (by, short))
both_formed n parts mode tuple by fields two named formed = rw (sym two, sym named, formed) refl

pub returns-in_err-tuple : goal.returns-in_err-tuple
returns-in_err-tuple c =
    let p = err_from_is_err_and c.from_residual-in_err-tuple.result c.from_residual-in_err-tuple.ensures.1 in
    let fields = text_fields c.in_ok-text.text in
    let formed = both_formed c.args.count (pieces_left c.args.words) c.in-Some.mode.now c.in-Some.tuple.now c.in-Some-find_mode.mode fields c.in-Some.ensures c.in-Some-find_mode.ensures c.in_ok-text.ensures.fields in
    rw (p.1, p.2, formed) (fails_first c.in_err-tuple.field-0.0 (short_key fields) _ c.in_err-tuple.ensures)
