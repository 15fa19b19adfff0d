use Rattle.std.proofs.Common.{List}
use Rattle.index_page.specs.Rows.{Row}
use Rattle.byte_page.specs.Moving.{CanAppendRows}
use Rattle.byte_page.proofs.MovingLemmas.{IsAppending}
use Rattle.byte_page.proofs.page.BytePage.append_rows.Given as goal

-- as many of the rows as were looked at are behind the others
abbrev pub invariant-loop : goal.invariant-loop
invariant-loop l =
    (left others : List Row) → CanAppendRows l.fn.self l.from l.fn.first left others
    → IsAppending l.fn.self l.self l.from l.next l.last others l.counter
