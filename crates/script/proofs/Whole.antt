-- A file, one line after another.
use Rattle.std.proofs.Common.{◌≡◌, ℕ, ◌+◌, ◌≤◌, Bool, true, false, cond, eqb, List, [], ◌∷◌, ◌++◌, length, Result, Ok, Err, refl, sym, ap, ◌∙◌, append_assoc, arith}
use Rattle.std.specs.List.{onto_first}
use Rattle.map_history.specs.LegalReport.{Line}
use Rattle.script.specs.declared.error.ScriptError.{ScriptError}
use Rattle.script.specs.declared.error.ScriptError.TheVariants as error
use Rattle.script.specs.declared.error.Flaw.TheVariants.{BadLine}
use Rattle.script.specs.declared.error.Refusal.{Refusal}
use Rattle.script.specs.declared.error.Refusal.TheVariants as refusal
use Rattle.script.specs.Grammar.{lines_of}
use Rattle.script.specs.Lane.{lane_from, lane_of, line_meaning, line_said, TakesLine}
use Rattle.script.specs.Schema.{SchemaText, SchemaDraft, empty_draft, schema_from, schema_line, schema_of}
use Rattle.script.specs.Steps.{◌>>=◌, Fails, FailsWhole, error_at}

-- the first piece grows by a byte, and no list of lines gets longer by more than one
length-onto_first : (b : ℕ) (ls : List (List ℕ)) → length (onto_first b ls) ≤ 1 + length ls
length-onto_first b [] = omega arith
length-onto_first b (l ∷ ls) = omega arith

at_byte : (t : Bool) (b : ℕ) (bytes : List ℕ) → length (lines_of bytes) ≤ length bytes → length (cond t ([] ∷ lines_of bytes) (onto_first b (lines_of bytes))) ≤ length (b ∷ bytes)
at_byte true b bytes h = omega arith
at_byte false b bytes h = omega (arith, length-onto_first b (lines_of bytes))

-- a file has no more lines than bytes
pub few_lines : (bytes : List ℕ) → length (lines_of bytes) ≤ length bytes
few_lines [] = omega arith
few_lines (b ∷ bytes) = at_byte (eqb b 10) b bytes (few_lines bytes)

-- what was said before, and what is still said
abbrev pub after : List Line → Result (List Line) ScriptError → Result (List Line) ScriptError
after front (Ok xs) = Ok (front ++ xs)
after front (Err e) = Err e

pub after_none : (r : Result (List Line) ScriptError) → r ≡ after [] r
after_none (Ok xs) = refl
after_none (Err e) = refl

after_more : (front said : List Line) (r : Result (List Line) ScriptError) → after front (r >>= λ (more : List Line). Ok (said ++ more)) ≡ after (front ++ said) r
after_more front said (Ok xs) = ap Ok (sym (append_assoc front said xs))
after_more front said (Err e) = refl

-- before the first line nothing was said
pub lane_begins : (s : SchemaText) (bytes : List ℕ) (front : List Line) (left : List (List ℕ)) → front ≡ [] → left ≡ lines_of bytes → lane_of s bytes ≡ after front (lane_from 1 s left)
unfolding lane_of
lane_begins s bytes front left none all = rw (none, all) (after_none (lane_from 1 s (lines_of bytes)))

-- a lane stops at a line that isn't read
pub lane_stops : (s : SchemaText) (n : ℕ) (front : List Line) (left : List (List ℕ)) (line : List ℕ) (lines : List (List ℕ)) (whole : Result (List Line) ScriptError) (e : Refusal)
    → whole ≡ after front (lane_from n s left) → left ≡ line ∷ lines → Fails e (line_meaning s line) → FailsWhole (error_at n e) whole
lane_stops s n front left line lines whole refusal.NoMemory told steps h = tt
lane_stops s n front left line lines whole (refusal.Flawed f) told steps h = told ∙ rw (steps, h) refl

-- and goes on behind one that is
pub lane_goes : (s : SchemaText) (n : ℕ) (front new : List Line) (left : List (List ℕ)) (line : List ℕ) (lines : List (List ℕ)) (whole : Result (List Line) ScriptError)
    → whole ≡ after front (lane_from n s left) → left ≡ line ∷ lines → TakesLine s n line front new → whole ≡ after new (lane_from (n + 1) s lines)
lane_goes s n front new left line lines whole told steps h = told ∙ rw (steps, h.says, h.grown) (after_more front (line_said n h.said) (lane_from (n + 1) s lines))

-- a schema stops at a line that isn't read
pub schema_stops : (n : ℕ) (d : SchemaDraft) (left : List (List ℕ)) (line : List ℕ) (lines : List (List ℕ)) (whole : Result SchemaText ScriptError) (e : Refusal)
    → schema_from n d left ≡ whole → left ≡ line ∷ lines → Fails e (schema_line d line) → FailsWhole (error_at n e) whole
schema_stops n d left line lines whole refusal.NoMemory told steps h = tt
schema_stops n d left line lines whole (refusal.Flawed f) told steps h = sym told ∙ rw (steps, h) refl

-- and goes on behind one that is
pub schema_goes : (n : ℕ) (d new : SchemaDraft) (left : List (List ℕ)) (line : List ℕ) (lines : List (List ℕ)) (whole : Result SchemaText ScriptError)
    → schema_from n d left ≡ whole → left ≡ line ∷ lines → schema_line d line ≡ Ok new → schema_from (n + 1) new lines ≡ whole
schema_goes n d new left line lines whole told steps h =
    let next : schema_from n d left ≡ schema_from (n + 1) new lines = rw (steps, h) refl in
    sym next ∙ told

-- before the first line the draft is empty
pub schema_begins : (d : SchemaDraft) (bytes : List ℕ) (left : List (List ℕ)) → d ≡ empty_draft → left ≡ lines_of bytes → schema_from 1 d left ≡ schema_of bytes
unfolding schema_of
schema_begins d bytes left new all = rw (new, all) refl

-- behind the last line there is no index
pub schema_lacks : (n : ℕ) (d : SchemaDraft) (left : List (List ℕ)) (whole : Result SchemaText ScriptError)
    → schema_from n d left ≡ whole → left ≡ [] → eqb (length d.text.names) 0 ≡ true → whole ≡ Err (error.Flawed n BadLine)
schema_lacks n d left whole told none empty = sym told ∙ rw (none, empty) refl

-- or there is one
pub schema_ends : (n : ℕ) (d : SchemaDraft) (left : List (List ℕ)) (whole : Result SchemaText ScriptError)
    → schema_from n d left ≡ whole → left ≡ [] → eqb (length d.text.names) 0 ≡ false → whole ≡ Ok d.text
schema_ends n d left whole told none some = sym told ∙ rw (none, some) refl
