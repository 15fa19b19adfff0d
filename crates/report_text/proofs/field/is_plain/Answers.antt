use Rattle.std.proofs.Common.{◌≡◌, ◌≢◌, ℕ, ◌≤◌, not, eqb, arith}
use Rattle.std.proofs.lemmas.Bool.Decides.{nat_tests}
use Rattle.map_history.specs.Text.{is_plain}
use Rattle.report_text.proofs.field.is_plain.Goals as goal

-- up to the comma it alone is left to be told apart
plain_to_comma : (byte : ℕ) → 33 ≤ byte → byte ≤ 44 → byte ≢ 37 → not (eqb byte 44) ≡ is_plain byte
plain_to_comma byte low high other = grind (arith, nat_tests)

pub returns-then-byte-ne37 : goal.returns-then-byte-ne37
returns-then-byte-ne37 c = plain_to_comma c.args.byte (omega arith) (omega arith) (λ is. omega arith)
