-- How a call ends with a text that is put.
use Rattle.std.specs.Prelude.{ℕ, ◌≡◌, ◌≤◌, ◌⊎◌, List, Option, Result, Ok, Err}
use Rattle.io_port.specs.Faults.{ShowsFault}
use Rattle.io_port.specs.Sink.{Puts, PutsSome}
use Rattle.io_port.specs.declared.sink.Sink.{Ghosts}
use Rattle.report_print.specs.declared.halt.Halt.{Halt}
use Rattle.report_print.specs.declared.halt.Halt.TheVariants as halt
use Rattle.ahi_cli.specs.declared.status.Status.{Status}
use Rattle.ahi_cli.specs.declared.status.Status.TheVariants.{SinkFault, NoMemory}
use Rattle.ahi_cli.specs.declared.stop.Stop.{Stop}
use Rattle.ahi_cli.specs.declared.stop.Stop.TheVariants as stop
use Rattle.ahi_cli.specs.Stops.{status_of, stop_text}

-- a text, put to end with a status: whole with that status, or a part with that of its halt
abbrev pub EndsWith : Option (List ℕ) → Option (List ℕ) → ℕ → ℕ → List ℕ → Status → Status → Type 0
EndsWith old new faults faults' text whole SinkFault =
    PutsSome old new text × ShowsFault faults faults'
EndsWith old new faults faults' text whole NoMemory = (new ≡ old) ⊎ PutsSome old new text
EndsWith old new faults faults' text whole status =
    (status ≡ whole) × Puts old new text × (faults ≤ faults')

-- a refusal, put: its line with its status, and nothing where there is no memory
abbrev pub EndsRefused : Option (List ℕ) → Option (List ℕ) → ℕ → ℕ → Stop → Status → Type 0
EndsRefused old new faults faults' stop.NoMemory status = (status ≡ NoMemory) × (new ≡ old)
EndsRefused old new faults faults' stop status =
    EndsWith old new faults faults' (stop_text stop) (status_of stop) status

-- the same of this sink
abbrev pub EndsRefusedAt : {K : Type 0} → Ghosts K → K → K → Stop → Status → Type 0
EndsRefusedAt sink old new stop status =
    EndsRefused (sink.written old) (sink.written new) (sink.faults old) (sink.faults new)
    stop status

-- the status with which printing ends that was halted
abbrev pub halted : Halt → Status
halted halt.SinkFault = SinkFault
halted halt.NoMemory = NoMemory

-- the status with which printing ends
abbrev pub ended : Result (Unit {0}) Halt → Status → Status
ended (Ok x) whole = whole
ended (Err h) whole = halted h
