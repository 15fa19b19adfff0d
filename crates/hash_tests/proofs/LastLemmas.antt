-- The first and the last node of a list, read by their places.
use Rattle.std.proofs.Common.{◌≡◌, ◌-◌, Some, None, List, [], ◌∷◌, length, refl, ap, ◌∙◌, arith}
use Rattle.std.specs.Prelude.{slice_get}
use Rattle.chain_arena.specs.declared.node.Node.{Node}
use Rattle.hash_law.specs.Entries.{first_or, last_or}

-- the first
pub first_at : (xs : List Node) → slice_get xs 0 ≡ first_or None xs
first_at [] = refl
first_at (x ∷ xs) = refl

-- the last
pub last_at : (xs : List Node) → slice_get xs (length xs - 1) ≡ last_or None xs
last_at [] = refl
last_at (x ∷ xs) =
    let e : length (x ∷ xs) - 1 ≡ length xs = omega arith in
    ap (slice_get (x ∷ xs)) e ∙ behind x xs
  where
    behind : (x : Node) (xs : List Node) → slice_get (x ∷ xs) (length xs) ≡ last_or (Some x) xs
    behind x [] = refl
    behind x (y ∷ ys) = behind y ys
