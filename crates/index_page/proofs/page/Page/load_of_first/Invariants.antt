use Rattle.std.proofs.Common.{◌≡◌, take}
use Rattle.index_page.specs.Loads.{load_of}
use Rattle.index_page.proofs.page.Page.load_of_first.Given as goal

-- the rows so far
abbrev pub invariant-loop-i : goal.invariant-loop-i
invariant-loop-i l = l.load ≡ load_of (take l.i l.self.rows)
