use Rattle.std.proofs.Common.{◌≡◌, map, take}
use Rattle.index_page.specs.Slots.{content_in}
use Rattle.index_page.proofs.records.Records.copy.Given as goal

-- the first records are there
abbrev pub invariant-loop-slot : goal.invariant-loop-slot
invariant-loop-slot l = l.copy ≡ map (content_in l.self-inside.bytes.items) (take l.slot-index l.slot-items)
