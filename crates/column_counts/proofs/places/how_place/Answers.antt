use Rattle.std.proofs.Common.{ap, sym}
use Rattle.column_counts.specs.Places.{how_place}
use Rattle.column_counts.proofs.places.how_place.Goals as goal

pub returns-in-Off : goal.returns-in-Off
returns-in-Off c = ap how_place (sym c.in-Off.is)
