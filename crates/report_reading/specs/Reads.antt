-- What the program gives, beside what reading the lines that are left gives.
use Rattle.std.specs.Prelude.{ℕ, ◌≡◌, Bool, if◌then◌else◌, Option, Some, None, option_and_then, List, [], ◌∷◌, Result, Ok, Err}
use Rattle.line_forms.specs.LineForms.{Lines, Reading, read_as}
use Rattle.report_reading.specs.declared.misread.Misread.{Misread}
use Rattle.report_reading.specs.declared.misread.Misread.TheVariants as misread

-- the next line; where none is left, an empty one
abbrev pub next_of : Lines → List ℕ
next_of [] = []
next_of (line ∷ rest) = line

-- reading stops at the first of the lines that are left, unless memory ran out
abbrev pub Stops : {Y : Type 0} → Misread → Lines → Reading Y → Type 0
Stops misread.BadLine left read = read ≡ Err left
Stops misread.NoMemory left read = Unit {0}

-- what the program read, seen by `view`, and the lines that are left are what reading gives, unless
-- memory ran out
abbrev pub Reads : {X Y : Type 0} → (X → Y) → Result X Misread → Lines → Reading Y → Type 0
Reads view (Ok x) left read = read ≡ Ok (view x, left)
Reads view (Err e) left read = Stops e left read

-- what passes a test, if it is there
abbrev pub passing : {A : Type 0} → (A → Bool) → Option A → Option A
passing passes told = option_and_then (λ x. if passes x then Some x else None) told

-- nothing is told, unless memory ran out
abbrev pub TellsNone : {Y : Type 0} → Misread → Option Y → Type 0
TellsNone misread.BadLine told = told ≡ None
TellsNone misread.NoMemory told = Unit {0}

-- what the program made of some words, seen by `view`, is what they tell, unless memory ran out
abbrev pub Tells : {X Y : Type 0} → (X → Y) → Result X Misread → Option Y → Type 0
Tells view (Ok x) told = told ≡ Some (view x)
Tells view (Err e) told = TellsNone e told

-- whether things are read, and not which
abbrev pub without_things : {A : Type 0} → Reading A → Reading (Unit {0})
without_things read = read_as (λ _. tt) read
