use Rattle.std.proofs.Common.{◌∙◌, sym}
use Rattle.page_mirror.proofs.slots.slot_owner.Goals as goal

pub returns : goal.returns
returns c = λ m r low. record {
  is = r;
  within = r.names c.args.slot low;
  placed = sym (c.get_slot.ensures ∙ r.slots c.args.slot low);
}
