-- A lane, one line of its file after another.
use Rattle.std.proofs.Common.{◌≡◌, ℕ, ◌+◌, List, [], ◌∷◌, ◌++◌, Option, Ok}
use Rattle.map_history.specs.Operation.{Operation}
use Rattle.map_history.specs.LegalReport.{Line}
use Rattle.script.specs.Lane.{line_meaning, lane_from, line_said}
use Rattle.script.specs.Schema.{SchemaText}
use Rattle.script.specs.Steps.{numbered}
use Rattle.script.proofs.Results.{bind_ok, unnumbered}

-- what one line of the file says, and the lane of those after it
pub record Step (s : SchemaText) (n : ℕ) (text : List ℕ) (texts : List (List ℕ)) (lines : List Line) : Type 0 where
  pub said : Option Operation
  pub more : List Line
  pub says : line_meaning s text ≡ Ok said
  pub later : lane_from (n + 1) s texts ≡ Ok more
  pub whole : line_said n said ++ more ≡ lines

pub step : (s : SchemaText) (n : ℕ) (text : List ℕ) (texts : List (List ℕ)) (lines : List Line) → lane_from n s (text ∷ texts) ≡ Ok lines → Step s n text texts lines
step s n text texts lines h =
    let one = bind_ok (numbered n (line_meaning s text)) _ lines h in
    let more = bind_ok (lane_from (n + 1) s texts) (λ (m : List Line). Ok (line_said n one.0 ++ m)) lines one.2 in
    record { said = one.0; more = more.0; says = unnumbered n _ _ one.1; later = more.1; whole = cc }

pub no_lines : (lines : List Line) (s : SchemaText) (n : ℕ) → lane_from n s [] ≡ Ok lines → [] ≡ lines
no_lines lines s n h = cc
