use Rattle.std.proofs.Common.{IfSome, IsSome}
use Rattle.index_page.specs.Rows.{find_row}
use Rattle.engine_tests.proofs.recount.add_page.Given as goal

-- a row stands at the place
abbrev pub invariant-loop : goal.invariant-loop
invariant-loop g l = IfSome l.at (λ place. IsSome (find_row place l.page.rows))
