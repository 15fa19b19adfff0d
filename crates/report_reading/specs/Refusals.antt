-- Refusals of keys and values, as those of lines.
use Rattle.script.specs.declared.error.Refusal.{Refusal}
use Rattle.script.specs.declared.error.Refusal.TheVariants as refusal
use Rattle.report_reading.specs.declared.misread.Misread.{Misread}
use Rattle.report_reading.specs.declared.misread.Misread.TheVariants as misread

-- why a line isn't read, by why a word of it isn't
abbrev pub misread_of : Refusal → Misread
misread_of (refusal.Flawed flaw) = misread.BadLine
misread_of refusal.NoMemory = misread.NoMemory
