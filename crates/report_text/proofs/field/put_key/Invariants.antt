use Rattle.std.proofs.Common.{◌≡◌, ◌++◌, take, map}
use Rattle.std.specs.List.{join_with_byte}
use Rattle.map_history.specs.Text.{field_text}
use Rattle.report_text.proofs.field.put_key.Given as goal

abbrev pub invariant-loop-i : goal.invariant-loop-i
invariant-loop-i g l = l.out.items ≡ l.initial.out.items ++ join_with_byte 44 (map field_text (take l.i (g.K.Fields.fields_of l.key)))
