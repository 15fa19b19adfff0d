use Rattle.std.proofs.Common.{IfSome, IsSome}
use Rattle.index_page.specs.Rows.{find_row}
use Rattle.page_tests.proofs.twins.assert_same_rows.Given as goal

-- where there is a place, there is a row
abbrev pub invariant-loop : goal.invariant-loop
invariant-loop g l =
    IfSome l.at (λ p. IsSome (find_row p l.plain.rows)) × IfSome l.place (λ p. IsSome (find_row p l.bytes.page.rows))
