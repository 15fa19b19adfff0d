use Rattle.std.proofs.Common.{IfSome, IsSome}
use Rattle.index_page.specs.Rows.{find_row}
use Rattle.page_tests.proofs.setup.assert_letters.Given as goal

-- a row stands at the place
abbrev pub invariant-loop-letter : goal.invariant-loop-letter
invariant-loop-letter g l = IfSome l.at (λ place. IsSome (find_row place l.page.rows))
