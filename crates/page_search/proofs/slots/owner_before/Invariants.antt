use Rattle.std.proofs.Common.{◌<◌, ◌-◌, length}
use Rattle.key_tuple.specs.KeyPlace.{cut_of}
use Rattle.page_rows.specs.Spelling.{IsPageOfRows}
use Rattle.page_search.specs.Agreeing.{agreed}
use Rattle.page_search.specs.Cuts.{LowFigures, UpFigures}
use Rattle.page_search.proofs.SlotLemmas.{OutTo, InFrom}
use Rattle.page_search.proofs.slots.owner_before.Given as goal

-- the cut leaves out the rows up to the owner of slot `low`, and admits those from that of `high`
-- on; and these are the figures of the two
abbrev pub invariant-loop-low : goal.invariant-loop-low
invariant-loop-low g l =
    (page : IsPageOfRows l.page l.fields) × (l.low < l.high) × (l.high < length page.parts.groups)
    × (out : OutTo l.page l.fields (cut_of l.mode (g.A.Fields.fields_of l.tuple)) page.parts l.low)
    × (past : InFrom l.page l.fields (cut_of l.mode (g.A.Fields.fields_of l.tuple)) page.parts l.high)
    × LowFigures (g.A.Fields.fields_of l.tuple) out.left out.right (agreed l.below)
    × UpFigures (g.A.Fields.fields_of l.tuple) past.left past.right (agreed l.above)
    × (l.high < 65536)

abbrev pub decreases-loop-low : goal.decreases-loop-low
decreases-loop-low g l = l.high - l.low
