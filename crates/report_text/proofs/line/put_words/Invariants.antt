use Rattle.std.proofs.Common.{◌≡◌, ◌++◌, take, map}
use Rattle.std.specs.List.{join_with_byte}
use Rattle.report_text.specs.Words.{text_of}
use Rattle.report_text.proofs.line.put_words.Given as goal

abbrev pub invariant-loop-i : goal.invariant-loop-i
invariant-loop-i g l = l.out.items ≡ l.initial.out.items ++ join_with_byte 32 (map (text_of g.K.Fields.fields_of) (take l.i l.words))
