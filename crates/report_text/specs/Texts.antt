-- The printed lines of a lane, one behind another in a buffer.
use Rattle.std.specs.Prelude.{ℕ, List, length}
use Rattle.key_tuple.specs.Parts.{RiseTo}
use Rattle.map_history.specs.Report.{AnswerLine}
use Rattle.map_history.specs.Spelling.{answer_text}
use Rattle.report_text.specs.declared.texts.Texts.TheInside.{Inside}

-- the ends rise to the end of the bytes
abbrev pub AreTexts : Inside → Type 0
AreTexts t = RiseTo 0 t.ends.items (length t.bytes.items)

-- the line of an answer, with those of its pieces
abbrev pub answer_line_text : AnswerLine → List ℕ
answer_line_text a = answer_text a.line a.answer
