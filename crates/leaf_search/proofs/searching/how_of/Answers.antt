use Rattle.std.proofs.Common.{sym, ap}
use Rattle.leaf_search.specs.Hows.{how_of}
use Rattle.leaf_search.proofs.searching.how_of.Goals as goal

pub returns-in-PartBusy : goal.returns-in-PartBusy
returns-in-PartBusy c = ap how_of (sym c.in-PartBusy.is)
