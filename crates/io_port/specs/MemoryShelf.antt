-- A shelf in memory, and what its loads answer and leave.
use Rattle.std.specs.Prelude.{◌≡◌, ℕ, ◌<◌, ◌≤◌, ◌⊎◌, List, map, length, Option, Some, None, Vec, String, Result, Ok, Err, Contains, ⊤}
use Rattle.std.specs.String.{string_bytes}
use Rattle.std.specs.declared.alloc.Global.{Global}
use Rattle.io_port.specs.Faults.{next_count}
use Rattle.io_port.specs.Shelf.{files_of}
use Rattle.io_port.specs.declared.shelf.ShelfError.{ShelfError}
use Rattle.io_port.specs.declared.shelf.ShelfError.TheVariants.{Failed, TooLong, NoMemory}

-- the files in order, the numbers of the loads to fail, and what the loads so far left behind
pub record ShelfState : Type 0 where
  pub files : List (List ℕ × List ℕ)
  pub fail : List ℕ
  pub calls : ℕ
  pub faults : ℕ
  pub failed : Option (List ℕ)

-- the names and the bytes
abbrev pub pairs_of : List (String Global × Vec ℕ Global) → List (List ℕ × List ℕ)
pairs_of files = map (λ file. (string_bytes file.0, file.1.items)) files

-- a shelf that nothing was loaded from
abbrev pub new_shelf : List (List ℕ × List ℕ) → List ℕ → ShelfState
new_shelf files fail = record { files = files; fail = fail; calls = 0; faults = 0; failed = None }

-- the shelf after a load that didn't fail
abbrev pub after_load : ShelfState → ShelfState
after_load shelf = record shelf { calls = next_count shelf.calls }

-- the shelf after a load of this name that failed
abbrev pub after_failure : ShelfState → List ℕ → ShelfState
after_failure shelf name = record shelf {
  calls = next_count shelf.calls;
  faults = next_count shelf.faults;
  failed = Some name;
}

-- the next load is to fail: its number is listed, or the name isn't held
abbrev pub IsDue : ShelfState → List ℕ → Type 0
IsDue shelf name = Contains shelf.fail shelf.calls ⊎ (files_of shelf.files name ≡ None)

-- the bytes, or that they are more than the limit
abbrev pub IsWithin : List ℕ → ℕ → Result (Vec ℕ Global) ShelfError → Type 0
IsWithin bytes limit (Ok copy) = (copy.items ≡ bytes) × (length bytes ≤ limit)
IsWithin bytes limit (Err Failed) = ⊥
IsWithin bytes limit (Err (TooLong n)) = (n ≡ limit) × (limit < length bytes)
IsWithin bytes limit (Err NoMemory) = ⊤

-- a load fails only where it is due to; else it gives the bytes, or that they are too many
abbrev pub IsAnswer : ShelfState → List ℕ → ℕ → Result (Vec ℕ Global) ShelfError → Type 0
IsAnswer shelf name limit (Err Failed) = IsDue shelf name
IsAnswer shelf name limit (Err NoMemory) = ⊤
IsAnswer shelf name limit result =
    (IsDue shelf name → ⊥)
    × (bytes : List ℕ) × (files_of shelf.files name ≡ Some bytes) × IsWithin bytes limit result
