-- What is read of the files of a command, and why it isn't.
use Rattle.std.specs.Prelude.{ℕ, ◌≡◌, ◌+◌, ◌≤◌, List, [], ◌∷◌, length, take, slice_get, Option, Some, None, Ok}
use Rattle.std.specs.Option.{ForSome}
use Rattle.io_port.specs.Faults.{ShowsFault}
use Rattle.io_port.specs.Shelf.{Files, IsLonger}
use Rattle.io_port.specs.declared.shelf.Shelf.{Ghosts}
use Rattle.map_history.specs.LegalReport.{Line}
use Rattle.script.specs.declared.TheConstants.{MAX_FILE_BYTES}
use Rattle.script.specs.Schema.{SchemaText, schema_of}
use Rattle.script.specs.Lane.{lane_of}
use Rattle.ahi_cli.specs.declared.stop.Stop.{Stop}
use Rattle.ahi_cli.specs.declared.stop.Stop.TheVariants.{Script, Shelf, TooLarge, NoMemory}
use Rattle.ahi_cli.specs.FirstRefusal.{file_stop, reading_stop, files_stop}

-- what a shelf tells of its failures around a call: how many there were and are, and the last name
pub record Failures : Type 0 where
  pub before : ℕ
  pub now : ℕ
  pub name : Option (List ℕ)

-- what this shelf tells of them
abbrev pub failures_of : {F : Type 0} → Ghosts F → F → F → Failures
failures_of shelf old new = record {
  before = shelf.faults old;
  now = shelf.faults new;
  name = shelf.failed new;
}

-- a shelf holds what it held, and its count of faults didn't fall
abbrev pub KeepsFiles : {F : Type 0} → Ghosts F → F → F → Type 0
KeepsFiles shelf old new =
    (shelf.holds new ≡ shelf.holds old) × (shelf.faults old ≤ shelf.faults new)

-- a fault came in the call, and it is that of the file with this name
abbrev pub FailsOn : Failures → List ℕ → Type 0
FailsOn failures name = ShowsFault failures.before failures.now × (failures.name ≡ Some name)

-- why a file with this number and name isn't loaded within a limit
abbrev pub StopsLoading : Option Files → Failures → ℕ → List ℕ → ℕ → Stop → Type 0
StopsLoading told failures file name limit (Shelf n) = (n ≡ file) × FailsOn failures name
StopsLoading told failures file name limit (TooLarge n) = (n ≡ file) × IsLonger told name limit
StopsLoading told failures file name limit NoMemory = Unit {0}
StopsLoading told failures file name limit stop = ⊥

-- the file of this name spells the schema, has so many bytes, and isn't too long
pub record SpellsSchema (files : Files) (name : List ℕ) (schema : SchemaText)
    (size : ℕ) : Type 0 where
  pub bytes : List ℕ
  pub there : files name ≡ Some bytes
  pub spelled : schema_of bytes ≡ Ok schema
  pub sized : size ≡ length bytes
  pub fits : size ≤ MAX_FILE_BYTES

-- the file of this name spells the lines, and with so many bytes before it they aren't too long
pub record SpellsLane (files : Files) (name : List ℕ) (schema : SchemaText) (before : ℕ)
    (lines : List Line) : Type 0 where
  pub bytes : List ℕ
  pub there : files name ≡ Some bytes
  pub spelled : lane_of schema bytes ≡ Ok lines
  pub fits : before + length bytes ≤ MAX_FILE_BYTES

-- where the files are told, the file with this number and name has this refusal
abbrev pub RefusesFile : Option Files → ℕ → List ℕ → (List ℕ → Option Stop) → Stop → Type 0
RefusesFile told file name refusal stop =
    ForSome told (λ files. file_stop file (files name) refusal ≡ Some stop)

-- why a file isn't read: it couldn't be loaded, or it is refused
abbrev pub StopsFile : Option Files → Failures → ℕ → List ℕ → (List ℕ → Option Stop) → Stop → Type 0
StopsFile told failures file name refusal (Shelf n) = (n ≡ file) × FailsOn failures name
StopsFile told failures file name refusal (Script n line code) =
    RefusesFile told file name refusal (Script n line code)
StopsFile told failures file name refusal (TooLarge n) =
    RefusesFile told file name refusal (TooLarge n)
StopsFile told failures file name refusal NoMemory = Unit {0}
StopsFile told failures file name refusal stop = ⊥

-- the files of these names spell the lanes in their order, with so many bytes before the first one
abbrev pub SpellsLanes : Files → SchemaText → ℕ → List (List ℕ) → List (List Line) → Type 0
SpellsLanes files schema before [] [] = Unit {0}
SpellsLanes files schema before (name ∷ names) (lines ∷ lanes) =
    (lane : SpellsLane files name schema before lines)
    × SpellsLanes files schema (before + length lane.bytes) names lanes
SpellsLanes files schema before names lanes = ⊥

-- the files spell the schema and the lanes
pub record Spells (files : Files) (names : List ℕ × List (List ℕ)) (schema : SchemaText)
    (lanes : List (List Line)) : Type 0 where
  pub size : ℕ
  pub schema_file : SpellsSchema files names.0 schema size
  pub lane_files : SpellsLanes files schema size names.1 lanes

-- of the files with these names the load of this one failed last, and none before it is refused
pub record FailsAt (told : Option Files) (failures : Failures) (names : List (List ℕ))
    (file : ℕ) : Type 0 where
  pub name : List ℕ
  pub named : slice_get names file ≡ Some name
  pub failed : FailsOn failures name
  pub before : ForSome told (λ files. reading_stop files (take file names) ≡ None)

-- where the files are told, this is the first refusal of those with these names
abbrev pub RefusesFirst : Option Files → List (List ℕ) → Stop → Type 0
RefusesFirst told names stop = ForSome told (λ files. files_stop files names ≡ Some stop)

-- why the files with these names aren't read
abbrev pub StopsReading : Option Files → Failures → List (List ℕ) → Stop → Type 0
StopsReading told failures names (Shelf file) = FailsAt told failures names file
StopsReading told failures names (Script file line code) =
    RefusesFirst told names (Script file line code)
StopsReading told failures names (TooLarge file) = RefusesFirst told names (TooLarge file)
StopsReading told failures names NoMemory = Unit {0}
StopsReading told failures names stop = ⊥
