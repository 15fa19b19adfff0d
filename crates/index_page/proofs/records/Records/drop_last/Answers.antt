use Rattle.index_page.proofs.SlotLemmas.{first_slots}
use Rattle.index_page.proofs.records.Records.drop_last.Goals as goal

pub invariant_of-self : goal.invariant_of-self
invariant_of-self c = first_slots c.self.inside.bytes.items c.self.inside.slots.items c.pop.new.self.items _ c.pop.ensures.items c.self.invariant
