-- What a part of a report does to the sink that it is put to.
use Rattle.std.specs.Prelude.{ℕ, ◌≤◌, List, Option, Result, Ok, Err}
use Rattle.io_port.specs.Faults.{ShowsFault}
use Rattle.io_port.specs.Sink.{Puts, PutsSome}
use Rattle.io_port.specs.declared.sink.Sink.{Ghosts}
use Rattle.report_print.specs.declared.halt.Halt.{Halt}
use Rattle.report_print.specs.declared.halt.Halt.TheVariants as halt

-- of a text, put between two moments with these bytes written and these faults counted: it was put
-- whole, or a first part of it was, and then a put failed or there was no memory
abbrev pub Prints : Option (List ℕ) → Option (List ℕ) → ℕ → ℕ → List ℕ → Result (Unit {0}) Halt
    → Type 0
Prints old new faults faults' text (Ok done) = Puts old new text × (faults ≤ faults')
Prints old new faults faults' text (Err halt.SinkFault) = PutsSome old new text
    × ShowsFault faults faults'
Prints old new faults faults' text (Err halt.NoMemory) = PutsSome old new text × (faults ≤ faults')

-- the same of this sink
abbrev pub PrintsTo : {K : Type 0} → Ghosts K → K → K → List ℕ → Result (Unit {0}) Halt → Type 0
PrintsTo sink old new text result =
    Prints (sink.written old) (sink.written new) (sink.faults old) (sink.faults new) text result
