-- Steps that may fail, and what it means that the program gives what a definition says.
use Rattle.std.specs.Prelude.{◌≡◌, ℕ, Option, Result, Ok, Err, ok_or, ◌⊎◌, IfErr}
use Rattle.script.specs.declared.error.ScriptError.{ScriptError}
use Rattle.script.specs.declared.error.ScriptError.TheVariants as error
use Rattle.script.specs.declared.error.Flaw.{Flaw}
use Rattle.script.specs.declared.error.Flaw.TheVariants as flaw
use Rattle.script.specs.declared.error.Refusal.{Refusal}
use Rattle.script.specs.declared.error.Refusal.TheVariants as refusal

infixl 10 ◌>>=◌
-- the first error, else what the next step makes of the value
abbrev pub ◌>>=◌ : {A B E : Type 0} → Result A E → (A → Result B E) → Result B E
(Ok x) >>= f = f x
(Err e) >>= f = Err e

-- what isn't there is bad form
abbrev pub or_bad : {A : Type 0} → Option A → Result A Flaw
or_bad o = ok_or o flaw.BadLine

-- the error of a file, by that of its line
abbrev pub error_at : ℕ → Refusal → ScriptError
error_at n refusal.NoMemory = error.NoMemory
error_at n (refusal.Flawed f) = error.Flawed n f

-- what is read of the line with this number
abbrev pub numbered : {A : Type 0} → ℕ → Result A Flaw → Result A ScriptError
numbered n (Ok x) = Ok x
numbered n (Err f) = Err (error.Flawed n f)

-- what is read is that refusal, unless memory ran out
abbrev pub Fails : {Y : Type 0} → Refusal → Result Y Flaw → Type 0
Fails refusal.NoMemory read = Unit {0}
Fails (refusal.Flawed f) read = read ≡ Err f

-- the program's answer for a line, seen by `view`, is what is read, unless memory ran out
abbrev pub Gives : {X Y : Type 0} → (X → Y) → Result X Refusal → Result Y Flaw → Type 0
Gives view (Ok x) read = read ≡ Ok (view x)
Gives view (Err e) read = Fails e read

-- the same of a value that a step changes into `new`
abbrev pub Leaves : {X Y : Type 0} → Result X Refusal → Result Y Flaw → Y → Type 0
Leaves (Ok x) read new = read ≡ Ok new
Leaves (Err e) read new = Fails e read

-- the same of the error of a file
abbrev pub FailsWhole : {Y : Type 0} → ScriptError → Result Y ScriptError → Type 0
FailsWhole error.NoMemory read = Unit {0}
FailsWhole e read = read ≡ Err e

-- the program's answer for a file, seen by `view`, is what is read, unless memory ran out
abbrev pub GivesWhole : {X Y : Type 0} → (X → Y) → Result X ScriptError → Result Y ScriptError
    → Type 0
GivesWhole view (Ok x) read = read ≡ Ok (view x)
GivesWhole view (Err e) read = FailsWhole e read

-- where a definition refuses a file, the program does so with the same error, or memory ran out
abbrev pub RefusesAlike : {X Y : Type 0} → Result X ScriptError → Result Y ScriptError → Type 0
RefusesAlike result read = IfErr read (λ e. (result ≡ Err e) ⊎ (result ≡ Err error.NoMemory))

-- an error of the program is the definition's, but for want of memory
abbrev pub HasCause : {X Y : Type 0} → Result X ScriptError → Result Y ScriptError → Type 0
HasCause result read = IfErr result (λ e. (e ≡ error.NoMemory) ⊎ (read ≡ Err e))
