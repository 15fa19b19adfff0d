-- A refusal speaks of the first line that isn't in the grammar.
use Rattle.std.proofs.Common.{◌≡◌, ℕ, ◌+◌, ◌⊎◌, inl, inr, Bool, true, false, cond, eqb, List, [], ◌∷◌, ◌++◌, length, Option, Result, Ok, Err, refl, sym, ap, ◌∙◌, arith}
use Rattle.std.specs.Prelude.{IsOk}
use Rattle.std.specs.List.{AllByRecursion}
use Rattle.std.proofs.lemmas.Bool.{eqb-true}
use Rattle.map_history.specs.Operation.{Operation}
use Rattle.map_history.specs.LegalReport.{Line}
use Rattle.script.specs.declared.error.Flaw.{Flaw}
use Rattle.script.specs.declared.error.ScriptError.{ScriptError}
use Rattle.script.specs.declared.error.ScriptError.TheVariants.{Flawed}
use Rattle.script.specs.declared.error.Flaw.TheVariants.{BadLine}
use Rattle.script.specs.Grammar.{lines_of}
use Rattle.script.specs.Lane.{line_meaning, lane_from, lane_of, line_said}
use Rattle.script_laws.specs.GrammarLaws.{IsFirstFlaw, Makes, IsFirstSchemaFlaw, LacksIndex}
use Rattle.script.specs.Schema.{SchemaText, SchemaDraft, empty_draft, schema_line, schema_from, schema_of}
use Rattle.script.specs.Steps.{◌>>=◌, numbered}

-- the first flaw of lines that begin at number n
record LaneStops (n : ℕ) (s : SchemaText) (lines : List (List ℕ)) (e : ScriptError) : Type 0 where
  before : List (List ℕ)
  line : List ℕ
  rest : List (List ℕ)
  flaw : Flaw
  split : lines ≡ before ++ line ∷ rest
  good : AllByRecursion (λ (l : List ℕ). IsOk (line_meaning s l)) before
  bad : line_meaning s line ≡ Err flaw
  number : e ≡ Flawed (length before + n) flaw

err_before : (r : Result (List Line) ScriptError) (front : List Line) (e : ScriptError) → (r >>= λ more. Ok (front ++ more)) ≡ Err e → r ≡ Err e
err_before (Ok xs) front e h = absurd cc
err_before (Err f) front e h = cc

lane_by_line : (n : ℕ) (s : SchemaText) (line : List ℕ) (lines : List (List ℕ)) (e : ScriptError) (r : Result (Option Operation) Flaw) → line_meaning s line ≡ r
    → (lane_from (n + 1) s lines ≡ Err e → LaneStops (n + 1) s lines e)
    → (numbered n r >>= λ said. lane_from (n + 1) s lines >>= λ more. Ok (line_said n said ++ more)) ≡ Err e → LaneStops n s (line ∷ lines) e
lane_by_line n s line lines e (Ok said) is later h =
    let x = later (err_before (lane_from (n + 1) s lines) (line_said n said) e h) in
    let place : length x.before + (n + 1) ≡ length (line ∷ x.before) + n = omega arith in
    record {
      before = line ∷ x.before;
      line = x.line;
      rest = x.rest;
      flaw = x.flaw;
      split = ap (λ (ls : List (List ℕ)). line ∷ ls) x.split;
      good = (rw is refl, x.good);
      bad = x.bad;
      number = x.number ∙ ap (λ (k : ℕ). Flawed k x.flaw) place;
    }
lane_by_line n s line lines e (Err f) is later h =
    let here : Flawed n f ≡ e = cc in
    let place : n ≡ 0 + n = omega arith in
    record { before = []; line = line; rest = lines; flaw = f; split = refl; good = tt; bad = is; number = sym here ∙ ap (λ (k : ℕ). Flawed k f) place }

lane_stops : (n : ℕ) (s : SchemaText) (lines : List (List ℕ)) (e : ScriptError) → lane_from n s lines ≡ Err e → LaneStops n s lines e
lane_stops n s [] e h = absurd cc
lane_stops n s (line ∷ lines) e h = lane_by_line n s line lines e (line_meaning s line) refl (λ later. lane_stops (n + 1) s lines e later) h

-- the first flaw of a lane
pub first_in_lane : (s : SchemaText) (bytes : List ℕ) (e : ScriptError) → lane_of s bytes ≡ Err e → IsFirstFlaw s (lines_of bytes) e
unfolding lane_of
first_in_lane s bytes e h =
    let x = lane_stops 1 s (lines_of bytes) e h in
    record { before = x.before; line = x.line; rest = x.rest; flaw = x.flaw; split = x.split; good = x.good; bad = x.bad; number = x.number }

-- the first flaw of a schema's lines from number n on, or that none is an index
record SchemaStops (n : ℕ) (s : SchemaDraft) (lines : List (List ℕ)) (e : ScriptError) : Type 0 where
  before : List (List ℕ)
  schema : SchemaDraft
  line : List ℕ
  rest : List (List ℕ)
  flaw : Flaw
  split : lines ≡ before ++ line ∷ rest
  good : Makes s before schema
  bad : schema_line schema line ≡ Err flaw
  number : e ≡ Flawed (length before + n) flaw

record SchemaEnds (n : ℕ) (s : SchemaDraft) (lines : List (List ℕ)) (e : ScriptError) : Type 0 where
  schema : SchemaDraft
  good : Makes s lines schema
  none : length schema.text.names ≡ 0
  number : e ≡ Flawed (length lines + n) BadLine

schema_goes_on : (n : ℕ) (s u : SchemaDraft) (line : List ℕ) (lines : List (List ℕ)) (e : ScriptError) → schema_line s line ≡ Ok u
    → SchemaStops (n + 1) u lines e ⊎ SchemaEnds (n + 1) u lines e → SchemaStops n s (line ∷ lines) e ⊎ SchemaEnds n s (line ∷ lines) e
schema_goes_on n s u line lines e is (inl x) =
    let place : length x.before + (n + 1) ≡ length (line ∷ x.before) + n = omega arith in
    inl (record {
      before = line ∷ x.before;
      schema = x.schema;
      line = x.line;
      rest = x.rest;
      flaw = x.flaw;
      split = ap (λ (ls : List (List ℕ)). line ∷ ls) x.split;
      good = (u, is, x.good);
      bad = x.bad;
      number = x.number ∙ ap (λ (k : ℕ). Flawed k x.flaw) place;
    })
schema_goes_on n s u line lines e is (inr x) =
    let place : length lines + (n + 1) ≡ length (line ∷ lines) + n = omega arith in
    inr (record { schema = x.schema; good = (u, is, x.good); none = x.none; number = x.number ∙ ap (λ (k : ℕ). Flawed k BadLine) place })

schema_by_line : (n : ℕ) (s : SchemaDraft) (line : List ℕ) (lines : List (List ℕ)) (e : ScriptError) (r : Result SchemaDraft Flaw) → schema_line s line ≡ r
    → ((u : SchemaDraft) → schema_from (n + 1) u lines ≡ Err e → SchemaStops (n + 1) u lines e ⊎ SchemaEnds (n + 1) u lines e)
    → (numbered n r >>= λ (u : SchemaDraft). schema_from (n + 1) u lines) ≡ Err e → SchemaStops n s (line ∷ lines) e ⊎ SchemaEnds n s (line ∷ lines) e
schema_by_line n s line lines e (Ok u) is later h = schema_goes_on n s u line lines e is (later u h)
schema_by_line n s line lines e (Err f) is later h =
    let here : Flawed n f ≡ e = cc in
    let place : n ≡ 0 + n = omega arith in
    inl (record { before = []; schema = s; line = line; rest = lines; flaw = f; split = refl; good = refl; bad = is; number = sym here ∙ ap (λ (k : ℕ). Flawed k f) place })

schema_ends : (n : ℕ) (empty : Bool) (s : SchemaDraft) (e : ScriptError) → eqb (length s.text.names) 0 ≡ empty → cond empty (Err (Flawed n BadLine)) (Ok s.text) ≡ Err e → SchemaEnds n s [] e
schema_ends n true s e is h =
    let here : Flawed n BadLine ≡ e = cc in
    let place : n ≡ 0 + n = omega arith in
    record { schema = s; good = refl; none = eqb-true _ _ is; number = sym here ∙ ap (λ (k : ℕ). Flawed k BadLine) place }
schema_ends n false s e is h = absurd cc

schema_stops : (n : ℕ) (s : SchemaDraft) (lines : List (List ℕ)) (e : ScriptError) → schema_from n s lines ≡ Err e → SchemaStops n s lines e ⊎ SchemaEnds n s lines e
schema_stops n s [] e h = inr (schema_ends n (eqb (length s.text.names) 0) s e refl h)
schema_stops n s (line ∷ lines) e h = schema_by_line n s line lines e (schema_line s line) refl (λ u later. schema_stops (n + 1) u lines e later) h

from_first : (lines : List (List ℕ)) (e : ScriptError) → SchemaStops 1 empty_draft lines e ⊎ SchemaEnds 1 empty_draft lines e → IsFirstSchemaFlaw lines e ⊎ LacksIndex lines e
from_first lines e (inl x) = inl (record { before = x.before; schema = x.schema; line = x.line; rest = x.rest; flaw = x.flaw; split = x.split; good = x.good; bad = x.bad; number = x.number })
from_first lines e (inr x) = inr (record { schema = x.schema; good = x.good; none = x.none; number = x.number })

-- the first flaw of a schema
pub first_in_schema : (bytes : List ℕ) (e : ScriptError) → schema_of bytes ≡ Err e → IsFirstSchemaFlaw (lines_of bytes) e ⊎ LacksIndex (lines_of bytes) e
unfolding schema_of
first_in_schema bytes e h = from_first (lines_of bytes) e (schema_stops 1 empty_draft (lines_of bytes) e h)
