use Rattle.std.proofs.Common.{sym, ap}
use Rattle.leaf_search.specs.Hows.{note_of_hit}
use Rattle.leaf_search.proofs.searching.note_of_hit.Goals as goal

pub returns-in-Raced : goal.returns-in-Raced
returns-in-Raced c = ap note_of_hit (sym c.in-Raced.is)
