-- What is put behind nothing stands alone.
use Rattle.std.proofs.Common.{ℕ, List, sym, ap, ◌∙◌}
use Rattle.std.proofs.lemmas.Result.{err_from_is_err_and}
use Rattle.script.specs.Grammar.{behind, field_of}
use Rattle.script.specs.Steps.{or_bad}
use Rattle.script.proofs.KeyFields.{not_put}
use Rattle.script.proofs.Steps.{behind_nothing}
use Rattle.script.proofs.field.field.Goals as goal

pub returns-in_err-add_field : goal.returns-in_err-add_field
returns-in_err-add_field c =
    let p = err_from_is_err_and c.from_residual-in_err-add_field.result c.from_residual-in_err-add_field.ensures.1 in
    rw (p.1, p.2) (not_put c.in_ok-bytes.bytes.items (field_of c.args.text.now) c.in_err-add_field.field-0.0 c.in_err-add_field.ensures)

pub returns : goal.returns
returns c =
    let read = field_of c.args.text.now in
    ap or_bad (sym (behind_nothing read)) ∙ ap (λ (front : List ℕ). or_bad (behind front read)) (sym c.in_ok-bytes.ensures.items) ∙ c.in_ok-add_field.ensures
