use Rattle.std.proofs.Common.{◌+◌, ◌≤◌, List, length}
use Rattle.index_page.specs.Rows.{Row}
use Rattle.page_search.specs.Cuts.{IsOnTheWay, place_in}
use Rattle.page_search.proofs.walk.find_cut.Given as goal

-- few rows are between those that are left out and those that are admitted
abbrev pub invariant-loop : goal.invariant-loop
invariant-loop g l =
    (left : List Row) × (middle : List Row) × (right : List Row)
    × IsOnTheWay l.page l.fields l.mode (g.A.Fields.fields_of l.tuple) left middle right (place_in l.found) × (length middle + l.counter ≤ 7)
