-- When a run is done, and with which status it ends.
use Rattle.std.specs.Prelude.{ℕ, ◌≡◌, ◌⊎◌, ◌+◌, ◌<◌, List, length, Option, Some, None}
use Rattle.io_port.specs.Faults.{ShowsFault}
use Rattle.io_port.specs.Shelf.{Files}
use Rattle.map_history.specs.LegalReport.{Line, HasNoSpaceFull}
use Rattle.report_laws.specs.FullLaws.{enough_pages}
use Rattle.script.specs.Schema.{SchemaText}
use Rattle.ahi_cli.specs.declared.status.Status.{Status}
use Rattle.ahi_cli.specs.declared.status.Status.TheVariants.{Done, ShelfFault, NoMemory}
use Rattle.ahi_cli.specs.declared.stop.Stop.{Stop}
use Rattle.ahi_cli.specs.declared.stop.Stop.TheVariants as stop
use Rattle.ahi_cli.specs.Ends.{Output, IsPut, IsWritten, Ends}
use Rattle.ahi_cli.specs.Files.{Spells}
use Rattle.ahi_cli.specs.FirstRefusal.{first_refusal, sizes_stop}
use Rattle.ahi_cli.specs.Run.{Asked, Reports, Stops, IsUnloaded, run_over, IsReportOf}
use Rattle.ahi_cli.specs.Stops.{status_of, stop_text}
use Rattle.ahi_cli.specs.Words.{accepted}

-- how a call of `run` ends
abbrev pub RunEnds : Asked → Output → Status → Type 0
RunEnds asked out status = Ends (Reports asked) (Stops asked) out status

-- the shelf shows no fault of this call
abbrev pub IsShelfSound : Asked → Type 0
IsShelfSound asked = ShowsFault asked.failures.before asked.failures.now → ⊥

-- nor does the sink
abbrev pub IsSinkSound : Output → Type 0
IsSinkSound out = ShowsFault out.faults out.faults' → ⊥

-- the words are accepted, the files that they name spell a run, its sizes are within their limits,
-- and the shelf shows no fault
pub record IsWellAsked (asked : Asked) : Type 0 where
  pub names : List ℕ × List (List ℕ)
  pub accepts : accepted asked.words ≡ Some names
  pub files : Files
  pub told : asked.told ≡ Some files
  pub schema : SchemaText
  pub lanes : List (List Line)
  pub spelled : Spells files names schema lanes
  pub allowed : sizes_stop schema (length lanes) ≡ None
  pub no_fault : IsShelfSound asked

-- a run that is asked well ends with its report or for want of memory, if the sink shows no fault
abbrev pub GoodRunsAreDone : Type 0
GoodRunsAreDone = (asked : Asked) (out : Output) (status : Status)
    → IsWellAsked asked → IsSinkSound out → RunEnds asked out status
    → (status ≡ Done) ⊎ (status ≡ NoMemory)

-- the end that a first refusal makes due: its status and its line, or else Done and a report
abbrev pub IsEndOf : Asked → Output → Status → Option Stop → Type 0
IsEndOf asked out status None = (status ≡ Done) × IsWritten (Reports asked) out
IsEndOf asked out status (Some refusal) =
    (status ≡ status_of refusal) × IsPut out (stop_text refusal)

-- the load of a file failed, no file before it is refused, and its line was put
pub record IsMissedFile (asked : Asked) (out : Output) : Type 0 where
  pub file : ℕ
  pub unloaded : IsUnloaded asked file
  pub told : IsPut out (stop_text (stop.Shelf file))

-- Where the files are told and neither shelf nor sink shows a fault, a run ends as its first
-- refusal makes due, or for want of memory. Words that aren't accepted need no files and no shelf for that.
-- Where the first refusal is that a file isn't there, it is a fault of the shelf.
pub record RunsEndByFirstRefusal : Type 0 where
  pub files : (asked : Asked) (out : Output) (status : Status) (files : Files)
      → asked.told ≡ Some files → IsShelfSound asked → IsSinkSound out → RunEnds asked out status
      → IsEndOf asked out status (first_refusal asked.words files) ⊎ (status ≡ NoMemory)
  pub words : (asked : Asked) (out : Output) (status : Status) → accepted asked.words ≡ None
      → IsSinkSound out → RunEnds asked out status
      → IsEndOf asked out status (Some stop.Usage) ⊎ (status ≡ NoMemory)
  pub missing : (asked : Asked) (out : Output) (status : Status) (files : Files) (file : ℕ)
      → asked.told ≡ Some files → first_refusal asked.words files ≡ Some (stop.Shelf file)
      → IsSinkSound out → RunEnds asked out status
      → ((status ≡ ShelfFault) × IsMissedFile asked out) ⊎ (status ≡ NoMemory)

-- in a report of lanes over a schema nothing is answered `space-full` where the schema has two pages
-- for each index and for each line that is a put or a set, and one for each lane, or one less
abbrev pub AmpleRunsFindPages : Type 0
AmpleRunsFindPages = (schema : SchemaText) (lanes : List (List Line)) (bytes : List ℕ)
    → (told : IsReportOf schema lanes bytes)
    → enough_pages (run_over schema lanes) < schema.sizes.pages + 2
    → HasNoSpaceFull told.report
