use Rattle.std.specs.List.{slice_get}
use Rattle.index_page.specs.Rows.{IsAt}
use Rattle.tree_restructure.proofs.walk.place_at.Given as goal

abbrev pub invariant-loop-i : goal.invariant-loop-i
invariant-loop-i l = IsAt l.page.rows l.place (slice_get l.page.rows l._i)
