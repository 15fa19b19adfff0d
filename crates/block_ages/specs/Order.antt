-- The order that ages make of blocks.
use Rattle.std.specs.Prelude.{ℕ, ◌≡◌, ◌<◌, ◌⊎◌, Option, Some, None, List, length, get_or}

-- the block c comes before the block b: its age is lower, or it is the same and its number is lower
abbrev pub ComesBefore : List ℕ → ℕ → ℕ → Type 0
ComesBefore ages c b = (get_or ages c 0 < get_or ages b 0)
    ⊎ ((get_or ages c 0 ≡ get_or ages b 0) × (c < b))

-- the block comes behind this one, if there is one
abbrev pub IsBehind : List ℕ → Option ℕ → ℕ → Type 0
IsBehind ages None b = Unit {0}
IsBehind ages (Some a) b = ComesBefore ages a b

-- the block comes before this one, if there is one
abbrev pub IsAhead : List ℕ → ℕ → Option ℕ → Type 0
IsAhead ages b None = Unit {0}
IsAhead ages b (Some a) = ComesBefore ages b a

-- the block comes next behind this one, or is the first of all
pub record IsNext (ages : List ℕ) (last : Option ℕ) (b : ℕ) : Type 0 where
  pub below : b < length ages
  pub behind : IsBehind ages last b
  pub first : (c : ℕ) → c < length ages → IsBehind ages last c → ComesBefore ages c b → ⊥

-- no block comes behind this one
abbrev pub IsLastByAge : List ℕ → Option ℕ → Type 0
IsLastByAge ages last = (c : ℕ) → c < length ages → IsBehind ages last c → ⊥
