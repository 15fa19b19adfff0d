use Rattle.std.proofs.Common.{◌∙◌, sym}
use Rattle.page_mirror.proofs.SlotLemmas.{slot_renamed}
use Rattle.page_mirror.proofs.slots.name_slot.Goals as goal

pub returns : goal.returns
returns c = λ m h low r.
    slot_renamed c.args.slot h r.is low r.within c.put_slot.ensures.kept (c.put_slot.ensures.value ∙ sym r.placed)
