use Rattle.std.proofs.Common.{◌≡◌, ◌≤◌, take}
use Rattle.index_page.specs.Loads.{load_of, larger_part}
use Rattle.index_page.proofs.HalvesLemmas.{IsBest}
use Rattle.index_page.proofs.page.Page.split_point.Given as goal

-- the load of the rows so far, and the first of the cuts so far whose larger part is least
abbrev pub invariant-loop-i : goal.invariant-loop-i
invariant-loop-i l = record {
  sum : l.left ≡ load_of (take l.i l.self.rows);
  within : l.cut ≤ l.i;
  larger : l.least ≡ larger_part l.self.rows l.cut;
  best : IsBest l.self.rows l.i l.cut;
}
