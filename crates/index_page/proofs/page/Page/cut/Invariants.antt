use Rattle.std.proofs.Common.{◌≤◌, ◌-◌, length, take, drop}
use Rattle.key_tuple.specs.KeyPlace.{cut_of}
use Rattle.index_page.specs.Search.{AllOut, AllIn}
use Rattle.index_page.proofs.page.Page.cut.Given as goal

-- the cut leaves out the rows below `low` and admits those from `high` on
abbrev pub invariant-loop-low : goal.invariant-loop-low
invariant-loop-low g l = record {
  ordered : l.low ≤ l.high;
  within : l.high ≤ length l.self.rows;
  out : AllOut (cut_of l.mode (g.A.Fields.fields_of l.tuple)) (take l.low l.self.rows);
  past : AllIn (cut_of l.mode (g.A.Fields.fields_of l.tuple)) (drop l.high l.self.rows);
}

abbrev pub decreases-loop-low : goal.decreases-loop-low
decreases-loop-low g l = l.high - l.low
