-- What a search in a page in bytes tells.
use Rattle.std.specs.Prelude.{ℕ}
use Rattle.index_page.specs.declared.spot.Spot.{Spot}
use Rattle.byte_page.specs.declared.search.ByteSpot.{ByteSpot}

-- the same with the number of rows that the cut leaves out
abbrev pub spot_with : ByteSpot → ℕ → Spot
spot_with spot cut = record {
  before = spot.before;
  after = spot.after;
  low = spot.low;
  up = spot.up;
  cut = cut;
}
