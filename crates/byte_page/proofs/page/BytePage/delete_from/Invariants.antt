use Rattle.std.proofs.Common.{◌≡◌, ◌∷◌, ◌++◌, List}
use Rattle.index_page.specs.Rows.{Row}
use Rattle.byte_page.proofs.TailLemmas.{IsPopping}
use Rattle.byte_page.proofs.page.BytePage.delete_from.Given as goal

-- the row at the place is still there, and so are those before it
abbrev pub invariant-loop : goal.invariant-loop
invariant-loop l =
    (left : List Row) (row : Row) (right : List Row) → l.fn.self.page.rows ≡ left ++ row ∷ right → row.place ≡ l.first
    → IsPopping l.fn.self.page l.self.page left row right l.counter
