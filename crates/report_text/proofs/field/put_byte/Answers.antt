use Rattle.std.proofs.Common.{◌≡◌, ℕ, ◌/◌, ◌%◌, false, [], ◌∷◌, ◌++◌, ap, ◌∙◌}
use Rattle.map_history.specs.Text.{byte_text, hex_digit, is_plain}
use Rattle.report_text.proofs.LineLemmas.{Stays-at_exit}
use Rattle.report_text.proofs.field.put_byte.Goals as goal

escaped : (byte first second : ℕ) → false ≡ is_plain byte → first ≡ hex_digit (byte / 16) → second ≡ hex_digit (byte % 16) → 37 ∷ first ∷ second ∷ [] ≡ byte_text byte
escaped byte first second special is_first is_second = rw (← special) cc

pub returns-in_err-push-clause-err : goal.returns-in_err-push-clause-err
returns-in_err-push-clause-err c = Stays-at_exit _ _ _ c.in_err-push.ensures.items

pub returns-in_err-extend_from_slice-clause-err : goal.returns-in_err-extend_from_slice-clause-err
returns-in_err-extend_from_slice-clause-err c = Stays-at_exit _ _ _ c.in_err-extend_from_slice.ensures.items

pub returns-in_ok-extend_from_slice-clause-ok : goal.returns-in_ok-extend_from_slice-clause-ok
returns-in_ok-extend_from_slice-clause-ok c =
    c.in_ok-extend_from_slice.ensures.items ∙ ap (λ l. c.args.out.now.items ++ l) (escaped c.args.byte _ _ c.if-is_plain.ensures c.hex_digit.ensures c.hex_digit-else-is_plain.ensures)
