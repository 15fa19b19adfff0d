-- What a file says at the numbers of its lane's lines.
use Rattle.std.proofs.Common.{◌≡◌, ℕ, zero, suc, ◌+◌, List, [], ◌∷◌, Option, Some, None, Ok, refl, sym, subst, arith}
use Rattle.std.specs.List.{All, Contains}
use Rattle.std.proofs.lemmas.List.Elements.{All-nil, All-cons, All-append, All-weaker, Contains-append_left, Contains-append_right, recursion_from_All}
use Rattle.map_history.specs.Operation.{Operation}
use Rattle.map_history.specs.LegalReport.{Line}
use Rattle.script.specs.Grammar.{lines_of}
use Rattle.script.specs.Lane.{line_meaning, lane_from, lane_of, line_said}
use Rattle.script.specs.Schema.{SchemaText}
use Rattle.script.proofs.LaneSteps.{step, no_lines}
use Rattle.script_laws.specs.LaneLaws.{LinesAreTold, TextSays, IsToldOf}

-- the line is said by the texts, whose first has number n
record IsSaid (s : SchemaText) (n : ℕ) (texts : List (List ℕ)) (line : Line) : Type 0 where
  place : ℕ
  number : line.line ≡ n + place
  says : TextSays s texts place line.op

first_said : (s : SchemaText) (n : ℕ) (text : List ℕ) (texts : List (List ℕ)) (said : Option Operation) → line_meaning s text ≡ Ok said → All (IsSaid s n (text ∷ texts)) (line_said n said)
first_said s n text texts None h = All-nil _
first_said s n text texts (Some op) h =
    let line : Line = record { line = n; op = op } in
    let said : IsSaid s n (text ∷ texts) line = record { place = 0; number = omega arith; says = record { text = text; there = refl; said = h } } in
    All-cons (IsSaid s n (text ∷ texts)) line [] said (All-nil _)

said_later : (s : SchemaText) (n : ℕ) (text : List ℕ) (texts : List (List ℕ)) (line : Line) → IsSaid s (n + 1) texts line → IsSaid s n (text ∷ texts) line
said_later s n text texts line h = record { place = suc h.place; number = omega (arith, h.number); says = record { text = h.says.text; there = h.says.there; said = h.says.said } }

-- each line is said
from_said : (s : SchemaText) (n : ℕ) (texts : List (List ℕ)) (lines : List Line) → lane_from n s texts ≡ Ok lines → All (IsSaid s n texts) lines
from_said s n [] lines h = subst (λ (ls : List Line). All (IsSaid s n []) ls) (no_lines lines s n h) (All-nil _)
from_said s n (text ∷ texts) lines h =
    let x = step s n text texts lines h in
    let later = All-weaker (IsSaid s (n + 1) texts) (IsSaid s n (text ∷ texts)) (said_later s n text texts) x.more (from_said s (n + 1) texts x.more x.later) in
    subst (λ (ls : List Line). All (IsSaid s n (text ∷ texts)) ls) x.whole (All-append (IsSaid s n (text ∷ texts)) (line_said n x.said) x.more (first_said s n text texts x.said x.says) later)

-- what a text says is among the lines
from_has : (s : SchemaText) (n : ℕ) (texts : List (List ℕ)) (lines : List Line) → lane_from n s texts ≡ Ok lines
    → (place : ℕ) (op : Operation) → TextSays s texts place op → Contains lines (record { line = place + n; op = op })
from_has s n [] lines h place op says = absurd (cc (says.there))
from_has s n (text ∷ texts) lines h zero op says =
    let x = step s n text texts lines h in
    let here : text ≡ says.text = cc (says.there) in
    let is : x.said ≡ Some op = cc (x.says, says.said, here) in
    let number : n ≡ 0 + n = omega arith in
    let line : Line = record { line = n; op = op } in
    let there : Contains (line_said n x.said) line = subst (λ (o : Option Operation). Contains (line_said n o) line) (sym is) (0, omega arith, refl) in
    subst (λ (k : ℕ). Contains lines (record { line = k; op = op })) number
    (subst (λ (ls : List Line). Contains ls line) x.whole (Contains-append_left (line_said n x.said) x.more line there))
from_has s n (text ∷ texts) lines h (suc place) op says =
    let x = step s n text texts lines h in
    let number : place + (n + 1) ≡ suc place + n = omega arith in
    let later = from_has s (n + 1) texts x.more x.later place op (record { text = says.text; there = says.there; said = says.said }) in
    subst (λ (ls : List Line). Contains ls (record { line = suc place + n; op = op })) x.whole
    (Contains-append_right (line_said n x.said) x.more _ (subst (λ (k : ℕ). Contains x.more (record { line = k; op = op })) number later))

said_is_told : (s : SchemaText) (texts : List (List ℕ)) (line : Line) → IsSaid s 1 texts line → IsToldOf s texts line
said_is_told s texts line h = record { place = h.place; number = omega (arith, h.number); says = h.says }

-- each line of a lane is said at its number
pub told : (s : SchemaText) (bytes : List ℕ) (lines : List Line) → lane_of s bytes ≡ Ok lines → All (IsToldOf s (lines_of bytes)) lines
unfolding lane_of
told s bytes lines h = All-weaker (IsSaid s 1 (lines_of bytes)) (IsToldOf s (lines_of bytes)) (said_is_told s (lines_of bytes)) lines (from_said s 1 (lines_of bytes) lines h)

pub lines_are_told : LinesAreTold
unfolding lane_of
lines_are_told = record {
  each = λ s bytes lines h. recursion_from_All _ lines (told s bytes lines h);
  all = λ s bytes lines h place op says. from_has s 1 (lines_of bytes) lines h place op says;
}
