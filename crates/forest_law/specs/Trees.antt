-- What the held trees and the change lead to, and when a step is one move of the pages.
use Rattle.std.specs.Prelude.{ℕ, ◌≡◌, ◌≢◌, ◌⊎◌, Option, Some, None, List, []}
use mathlib.Core.Option.{some}
use lib.ListN.{get_elem?}
use Rattle.map_history.specs.Map.{Map, key_of, value_of, write}
use Rattle.tree_law.specs.PageChanges.{PageChange}
use Rattle.tree_law.specs.PageMoves.{IsMove}
use Rattle.index_law.specs.Answers.{MadeChange}
use Rattle.forest_law.specs.declared.objects.Tree.{Tree}
use Rattle.forest_law.specs.declared.objects.Object.{Object}
use Rattle.forest_law.specs.declared.objects.Object.TheVariants as object
use Rattle.forest_law.specs.Numbers.{tree_id}
use Rattle.forest_law.specs.Objects.{Becomes}

-- the tree of the index is held, and its height becomes another
pub record TreeTurns (before news : List (Option Object)) (i : ℕ)
    (height height' : ℕ) : Type 0 where
  pub old : Tree
  pub new : Tree
  pub becomes : Becomes before news (tree_id i) (object.Tree old) (object.Tree new)
  pub was : height ≡ old.height
  pub is : height' ≡ new.height

-- the tree of the index isn't held, and its height stays
pub record TreeRests (before : List (Option Object)) (i : ℕ) (height height' : ℕ) : Type 0 where
  pub free : (t : Tree) → get_elem? before (tree_id i) ≡ some (Some (object.Tree t)) → ⊥
  pub same : height' ≡ height

-- the heights are what the held trees make of them, and all others stay
abbrev pub HeightsLead : List (Option Object) → List (Option Object) → (ℕ → ℕ) → (ℕ → ℕ) → Type 0
HeightsLead before news heights heights' = (i : ℕ)
    → TreeTurns before news i (heights i) (heights' i) ⊎ TreeRests before i (heights i) (heights' i)

-- the maps are what the change makes of them, if there is one, and all others stay
abbrev pub MapsLead : Option (ℕ × MadeChange) → (ℕ → Map) → (ℕ → Map) → Type 0
MapsLead None maps maps' = maps' ≡ maps
MapsLead (Some d) maps maps' =
    (maps' d.0 ≡ write (key_of d.1.change) (value_of d.1.change) (maps d.0))
    × ((i : ℕ) → i ≢ d.0 → maps' i ≡ maps i)

-- no page, height or map changes, or the changes are one move
abbrev pub IsStep : (ℕ → ℕ) → (ℕ → ℕ) → (ℕ → Map) → (ℕ → Map) → List PageChange → Type 0
IsStep heights heights' maps maps' changes =
    ((changes ≡ []) × (heights' ≡ heights) × (maps' ≡ maps))
    ⊎ IsMove heights heights' maps maps' changes
