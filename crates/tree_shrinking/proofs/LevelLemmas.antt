-- The page above a level was given back.
use Rattle.std.proofs.Common.{◌≡◌, ℕ, Option, Some, None, Result, Ok, [], ◌∷◌, refl}
use Rattle.key_tuple.specs.Order.{FieldList}
use Rattle.key_tuple.specs.declared.error.NoMemory.{NoMemory}
use Rattle.forest_world.specs.Held.{TreePass}
use Rattle.buffer_pool.specs.Frames.{GivesFrame}
use Rattle.tree_growth.specs.declared.looking.PageInHand.{PageInHand}
use Rattle.tree_growth.specs.Ways.{ArrivesAt}
use Rattle.tree_shrinking.specs.Pairs.{GoesTo, ComesBack}
use Rattle.tree_shrinking.proofs.WayLemmas.{way_gave, to_both}

module _ {p q : TreePass} {i : ℕ} {key : FieldList} {at : PageInHand}
    (reaches : ArrivesAt p i key 0 at q) where
  abbrev pub arrived : GoesTo p i key (at.block ∷ []) q
  arrived = record { goes = reaches.goes; way = reaches.way }

  -- at once
  abbrev pub given_at_once : {r : TreePass} → GivesFrame q at.block r → GoesTo p i key [] r
  given_at_once gave = to_both arrived (way_gave reaches.way gave (λ k ne each. (ne, tt)) refl)

  -- or after a page under it was merged, or wasn't
  abbrev pub given_after : {r s : TreePass} → ComesBack q at.block i key r → GivesFrame r at.block s
      → GoesTo p i key [] s
  given_after back gave = to_both (to_both arrived back.to)
      (way_gave back.to.way gave (λ k ne each. (ne, tt)) refl)

-- an answer names no level, or one
pub none_or_named : (r : Result (Option ℕ) NoMemory) (above : ℕ) → r ≡ Ok None
    → r ≡ Ok (Some above) → ⊥
none_or_named r above none named = absurd cc
