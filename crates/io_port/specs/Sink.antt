-- What a put does to the bytes written.
use Rattle.std.specs.Prelude.{◌≡◌, ℕ, List, ◌++◌, take, Option, option_map}

-- the bytes written grow by these, where they are told; whether they are told stays
abbrev pub Puts : Option (List ℕ) → Option (List ℕ) → List ℕ → Type 0
Puts old new bytes = new ≡ option_map (λ written. written ++ bytes) old

-- they grow by some first part of these
abbrev pub PutsSome : Option (List ℕ) → Option (List ℕ) → List ℕ → Type 0
PutsSome old new bytes = (n : ℕ) × Puts old new (take n bytes)
