-- Things that are read one after another, each by what is known of it.
use Rattle.std.specs.Prelude.{ℕ, zero, suc, ◌+◌, Ok, List, [], ◌∷◌, ◌++◌}
use Rattle.line_forms.specs.LineForms.{Lines, Reading, read_both, read_as}

-- one thing in front of others
abbrev pub in_front : {A : Type 0} → A × List A → List A
in_front x = x.0 ∷ x.1

-- one thing for each of these, in their order
abbrev pub read_each : {X A : Type 0} → (X → Lines → Reading A) → List X → Lines
    → Reading (List A)
read_each read [] text = Ok ([], text)
read_each read (x ∷ xs) text =
    read_as in_front (read_both (read x) (λ first. read_each read xs) text)

-- the lines of such things
abbrev pub each_lines : {X A : Type 0} → (X → A → Lines) → List X → List A → Lines
each_lines lines [] things = []
each_lines lines (x ∷ xs) [] = []
each_lines lines (x ∷ xs) (thing ∷ things) = lines x thing ++ each_lines lines xs things

-- so many numbers, from one on
abbrev pub numbers_from : ℕ → ℕ → List ℕ
numbers_from number zero = []
numbers_from number (suc n) = number ∷ numbers_from (number + 1) n
