-- How a call of any command ends: a fact for each status.
use Rattle.std.specs.Prelude.{ℕ, ◌≡◌, ◌≤◌, ◌⊎◌, List, Option}
use Rattle.io_port.specs.Faults.{ShowsFault}
use Rattle.io_port.specs.Sink.{Puts, PutsSome}
use Rattle.io_port.specs.declared.sink.Sink.{Ghosts}
use Rattle.ahi_cli.specs.declared.status.Status.{Status}
use Rattle.ahi_cli.specs.declared.status.Status.TheVariants.{Done, Script, Usage, ShelfFault, SinkFault, TooLarge, NoMemory}
use Rattle.ahi_cli.specs.declared.stop.Stop.{Stop}
use Rattle.ahi_cli.specs.Stops.{status_of, stop_text}

-- what a sink tells around a call: what was written and what is, how many faults there were and are
pub record Output : Type 0 where
  pub old : Option (List ℕ)
  pub new : Option (List ℕ)
  pub faults : ℕ
  pub faults' : ℕ

-- what this sink tells
abbrev pub output_of : {K : Type 0} → Ghosts K → K → K → Output
output_of sink old new = record {
  old = sink.written old;
  new = sink.written new;
  faults = sink.faults old;
  faults' = sink.faults new;
}

-- the text was put whole
pub record IsPut (out : Output) (text : List ℕ) : Type 0 where
  pub whole : Puts out.old out.new text
  pub faults : out.faults ≤ out.faults'

-- a text that the command may write was put whole
pub record IsWritten (Writes : List ℕ → Type 0) (out : Output) : Type 0 where
  pub text : List ℕ
  pub writes : Writes text
  pub put : IsPut out text

-- a refusal with this status has its cause, and its line was put whole
pub record IsRefused (Refuses : Stop → Type 0) (status : Status) (out : Output) : Type 0 where
  pub refusal : Stop
  pub has_status : status_of refusal ≡ status
  pub cause : Refuses refusal
  pub put : IsPut out (stop_text refusal)

-- the line of a refusal that has its cause
pub record IsItsLine (Refuses : Stop → Type 0) (text : List ℕ) : Type 0 where
  pub refusal : Stop
  pub cause : Refuses refusal
  pub is_text : text ≡ stop_text refusal

-- a first part of what was due was put: of a text that the command may write, or a refusal's line
pub record IsCutOff (Writes : List ℕ → Type 0) (Refuses : Stop → Type 0)
    (out : Output) : Type 0 where
  pub text : List ℕ
  pub due : Writes text ⊎ IsItsLine Refuses text
  pub part : PutsSome out.old out.new text

-- How a call ends, of a command that may write such texts when it is done, and may be refused for
-- such causes. Want of memory has no cause.
pub record Ends (Writes : List ℕ → Type 0) (Refuses : Stop → Type 0) (out : Output)
    (status : Status) : Type 0 where
  pub done : status ≡ Done → IsWritten Writes out
  pub script : status ≡ Script → IsRefused Refuses Script out
  pub usage : status ≡ Usage → IsRefused Refuses Usage out
  pub shelf_fault : status ≡ ShelfFault → IsRefused Refuses ShelfFault out
  pub too_large : status ≡ TooLarge → IsRefused Refuses TooLarge out
  pub sink_fault : status ≡ SinkFault
      → IsCutOff Writes Refuses out × ShowsFault out.faults out.faults'
  pub no_memory : status ≡ NoMemory → (out.new ≡ out.old) ⊎ IsCutOff Writes Refuses out
