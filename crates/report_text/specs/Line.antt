-- How a line grows.
use Rattle.std.specs.Prelude.{ℕ, zero, suc, ◌≡◌, List, [], ◌∷◌, length, take}

-- the bytes that were there are still there, before all others
abbrev pub KeepsBytes : List ℕ → List ℕ → Type 0
KeepsBytes old new = take (length old) new ≡ old

-- what stands before the part at a place: nothing before the first, and the byte before each other
abbrev pub separator : ℕ → ℕ → List ℕ
separator byte zero = []
separator byte (suc n) = byte ∷ []
