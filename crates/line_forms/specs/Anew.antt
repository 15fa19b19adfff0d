-- Lines that are read loosely, and printed anew to be compared.
use Rattle.std.specs.Prelude.{ℕ, Bool, ◌&&◌, ◌==◌, Option, Some, None, option_and_then, if◌then◌else◌, List, [], ◌∷◌}
use Rattle.std.specs.List.{slice_split}
use Rattle.std.specs.Str.{bytes_eq}

-- what is read loosely, where it fits and its text is the line
abbrev pub anew : {A : Type 0} → (List ℕ → Option A) → (A → Bool) → (A → List ℕ) → List ℕ → Option A
anew loose fits text line =
    option_and_then (λ x. if fits x && bytes_eq (text x) line then Some x else None) (loose line)

-- a line without its last byte
abbrev pub without_end : List ℕ → List ℕ
without_end [] = []
without_end (b ∷ []) = []
without_end (b ∷ c ∷ line) = b ∷ without_end (c ∷ line)

-- the words of a line that ends
abbrev pub words_of : List ℕ → List (List ℕ)
words_of line = slice_split (λ (b : ℕ). b == 32) (without_end line)

-- a line that can only be this one
abbrev pub exactly : List ℕ → List ℕ → Option (Unit {0})
exactly text line = if bytes_eq line text then Some tt else None
