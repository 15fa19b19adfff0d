-- What `run` writes, why it is refused, and what the pass that it leaves did.
use Rattle.std.specs.Prelude.{ℕ, ◌≡◌, List, Option, Some, None}
use Rattle.std.specs.Option.{ForSome}
use Rattle.io_port.specs.Shelf.{Files}
use Rattle.io_port.specs.declared.shelf.Shelf.{Ghosts}
use Rattle.map_history.specs.LegalReport.{Line, Run, IsLegalBytes}
use Rattle.script.specs.Schema.{SchemaText}
use Rattle.lane_threads.specs.Engine.{EnginePass, known, lessons_of}
use Rattle.lane_law.specs.Taught.{IsTaught}
use Rattle.lane_law.specs.Trail.{IsTrail}
use Rattle.ahi_cli.specs.declared.stop.Stop.{Stop}
use Rattle.ahi_cli.specs.declared.stop.Stop.TheVariants.{Usage, Script, Shelf, TooLarge, Sizes, NoMemory}
use Rattle.ahi_cli.specs.Files.{Failures, failures_of, Spells, FailsAt}
use Rattle.ahi_cli.specs.FirstRefusal.{first_refusal}
use Rattle.ahi_cli.specs.Words.{accepted, file_names}

-- what a call is asked by its words, and what its shelf tells around it
pub record Asked : Type 0 where
  pub words : List (List ℕ)
  pub told : Option Files
  pub failures : Failures

-- what a call with these words is asked of this shelf
abbrev pub asked_of : {F : Type 0} → List (List ℕ) → Ghosts F → F → F → Asked
asked_of words shelf old new = record {
  words = words;
  told = shelf.holds old;
  failures = failures_of shelf old new;
}

-- the run of these lanes over a schema
abbrev pub run_over : SchemaText → List (List Line) → Run
run_over schema lanes = record { sizes = schema.sizes; names = schema.names; lanes = lanes }

-- the bytes spell a legal report of these lanes over a schema
abbrev pub IsReportOf : SchemaText → List (List Line) → List ℕ → Type 0
IsReportOf schema lanes bytes = IsLegalBytes (run_over schema lanes) bytes

-- they are, and what they tell is what this pass did and tried to teach, in an engine of the
-- schema's sizes
pub record IsReportBy (pass : EnginePass) (schema : SchemaText) (lanes : List (List Line))
    (bytes : List ℕ) : Type 0 where
  pub report : IsReportOf schema lanes bytes
  pub sizes : pass.sizes ≡ schema.sizes
  pub trail : IsTrail (run_over schema lanes) report.report (known pass)
  pub tries : IsTaught (run_over schema lanes) report.report (lessons_of pass)

-- the files spell a schema and lanes, of which the bytes tell so
pub record TellsFiles (IsTold : SchemaText → List (List Line) → List ℕ → Type 0) (files : Files)
    (names : List ℕ × List (List ℕ)) (bytes : List ℕ) : Type 0 where
  pub schema : SchemaText
  pub lanes : List (List Line)
  pub spelled : Spells files names schema lanes
  pub told : IsTold schema lanes bytes

-- where the files are told, the first refusal of the call is this, or there is none
abbrev pub HasFirst : Asked → Option Stop → Type 0
HasFirst asked refusal = ForSome asked.told (λ files. first_refusal asked.words files ≡ refusal)

-- the words are accepted, nothing is refused, and of the files, where they are told, the bytes tell so
pub record Tells (IsTold : SchemaText → List (List Line) → List ℕ → Type 0) (asked : Asked)
    (bytes : List ℕ) : Type 0 where
  pub names : List ℕ × List (List ℕ)
  pub accepts : accepted asked.words ≡ Some names
  pub unrefused : HasFirst asked None
  pub report : ForSome asked.told (λ files. TellsFiles IsTold files names bytes)

-- the bytes are such a report of what is asked
abbrev pub Reports : Asked → List ℕ → Type 0
Reports = Tells IsReportOf

-- they are, and this pass did what they tell
abbrev pub ReportsBy : EnginePass → Asked → List ℕ → Type 0
ReportsBy pass = Tells (IsReportBy pass)

-- the words are accepted, and this is the first refusal of their files
pub record IsFirstRefusal (asked : Asked) (refusal : Stop) : Type 0 where
  pub names : List ℕ × List (List ℕ)
  pub accepts : accepted asked.words ≡ Some names
  pub first : HasFirst asked (Some refusal)

-- the words are accepted, the load of this file failed last, and none before it is refused
pub record IsUnloaded (asked : Asked) (file : ℕ) : Type 0 where
  pub names : List ℕ × List (List ℕ)
  pub accepts : accepted asked.words ≡ Some names
  pub fails : FailsAt asked.told asked.failures (file_names names) file

-- the cause of a refusal; want of memory has no line
abbrev pub Stops : Asked → Stop → Type 0
Stops asked Usage = accepted asked.words ≡ None
Stops asked (Script file line code) = IsFirstRefusal asked (Script file line code)
Stops asked (Shelf file) = IsUnloaded asked file
Stops asked (TooLarge file) = IsFirstRefusal asked (TooLarge file)
Stops asked (Sizes setting) = IsFirstRefusal asked (Sizes setting)
Stops asked NoMemory = ⊥
