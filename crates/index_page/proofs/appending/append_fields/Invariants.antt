use Rattle.std.proofs.Common.{take}
use Rattle.index_page.specs.Slots.{PutsFields}
use Rattle.index_page.proofs.appending.append_fields.Given as goal

-- the fields so far came behind what was there
abbrev pub invariant-loop-i : goal.invariant-loop-i
invariant-loop-i g l = PutsFields l.fn.bytes.items l.bytes.items (take l.i (g.A.Fields.fields_of l.fields)) l.ends
