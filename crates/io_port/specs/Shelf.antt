-- What a load answers.
use Rattle.std.specs.Prelude.{◌≡◌, ℕ, ◌<◌, List, length, Option, Some, Result, Ok, Err, IsSomeAnd, find, option_map, ⊤}
use Rattle.std.specs.Option.{ForSome}
use Rattle.std.specs.Str.{bytes_eq}
use Rattle.io_port.specs.declared.shelf.ShelfError.{ShelfError}
use Rattle.io_port.specs.declared.shelf.ShelfError.TheVariants.{Failed, TooLong, NoMemory}

-- what a shelf holds: the bytes of each name that it has
abbrev pub Files : Type 0
Files = List ℕ → Option (List ℕ)

-- the files of a list of names and bytes; of two of one name the first counts
abbrev pub files_of : List (List ℕ × List ℕ) → Files
files_of list name = option_map (λ file. file.1) (find (λ file. bytes_eq file.0 name) list)

-- where the files are told, the file of this name has these bytes
abbrev pub IsFileOf : Option Files → List ℕ → List ℕ → Type 0
IsFileOf told name bytes = ForSome told (λ files. files name ≡ Some bytes)

-- where the files are told, the file of this name has more bytes than the limit
abbrev pub IsLonger : Option Files → List ℕ → ℕ → Type 0
IsLonger told name limit =
    ForSome told (λ files. IsSomeAnd (files name) (λ bytes. limit < length bytes))

-- the answer that a file is too long names the limit, which the file exceeds
abbrev pub IsTooLong : Option Files → List ℕ → ℕ → ShelfError → Type 0
IsTooLong told name limit Failed = ⊤
IsTooLong told name limit (TooLong n) = (n ≡ limit) × IsLonger told name limit
IsTooLong told name limit NoMemory = ⊤

-- P, if the load failed
abbrev pub OnFailed : {T : Type 0} → Result T ShelfError → Type 0 → Type 0
OnFailed (Ok x) P = ⊤
OnFailed (Err Failed) P = P
OnFailed (Err (TooLong n)) P = ⊤
OnFailed (Err NoMemory) P = ⊤

-- P, if the load gave any other answer
abbrev pub UnlessFailed : {T : Type 0} → Result T ShelfError → Type 0 → Type 0
UnlessFailed (Ok x) P = P
UnlessFailed (Err Failed) P = ⊤
UnlessFailed (Err (TooLong n)) P = P
UnlessFailed (Err NoMemory) P = P

-- P, if the file was too long
abbrev pub OnTooLong : {T : Type 0} → Result T ShelfError → Type 0 → Type 0
OnTooLong (Ok x) P = ⊤
OnTooLong (Err Failed) P = ⊤
OnTooLong (Err (TooLong n)) P = P
OnTooLong (Err NoMemory) P = ⊤
