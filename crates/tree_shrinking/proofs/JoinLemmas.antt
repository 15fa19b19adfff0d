-- A page is merged with one beside it, or isn't, on the way up.
use Rattle.std.proofs.Common.{◌≡◌, ℕ, suc, Bool, true, false, Option, Some, Result, Ok, Err, List, [], ◌∷◌}
use Rattle.key_tuple.specs.Order.{FieldList}
use Rattle.key_tuple.specs.declared.error.NoMemory.{NoMemory}
use Rattle.key_tuple.specs.declared.mode.Mode.TheVariants as mode
use Rattle.latch_space.specs.Passes.{view}
use Rattle.forest_world.specs.Held.{TreePass}
use Rattle.buffer_pool.specs.Calls.{GetsNothing}
use Rattle.tree_descent.specs.Descents.{HoldsInner}
use Rattle.buffer_pool.proofs.PageLemmas.{tree_page_inside}
use Rattle.tree_growth.specs.Ways.{IsGoingDown}
use Rattle.tree_growth.proofs.AddLemmas.{goes_nowhere}
use Rattle.tree_shrinking.specs.declared.pairs.Pair.{Pair}
use Rattle.tree_shrinking.specs.declared.pairs.Siblings.{Siblings}
use Rattle.tree_shrinking.specs.Merging.{PointsAtPair}
use Rattle.tree_shrinking.specs.Pairs.{HoldsAboveIf, HoldsPair, GoesTo, StillKnows, ComesBack, TakesPair}
use Rattle.tree_shrinking.proofs.WayLemmas.{to_both, still_nothing, way_nothing}

-- one way behind another, back to the page above
abbrev pub back_after : {p q r : TreePass} {parent i : ℕ} {key : FieldList} {bs : List ℕ}
    → GoesTo p i key bs q → ComesBack q parent i key r → ComesBack p parent i key r
back_after first back = record {
  to = to_both first back.to;
  up = back.up;
  knows = back.knows;
  inside = back.inside;
}

-- the page above was never left
abbrev pub back_at_once : {p : TreePass} {parent i : ℕ} {key : FieldList} {asked : Option Siblings}
    → IsGoingDown p i key (parent ∷ []) → HoldsAboveIf (view p) parent asked i
    → ComesBack p parent i key p
back_at_once {p} {parent} {i} way h = record {
  to = record { goes = goes_nowhere p; way = way };
  up = h.up;
  knows = h.knows;
  inside = tree_page_inside h.up i (suc h.level) h.above;
}

-- a pair is still in hand where nothing was done
pub pair_still : {p q : TreePass} {pair : Pair} {i : ℕ} → GetsNothing p q
    → HoldsPair (view p) pair i → HoldsPair (view q) pair i
pair_still {pair = pair} got h = record {
  level = h.level;
  up = h.up;
  lower = h.lower;
  upper = h.upper;
  knows_up = still_nothing got pair.parent h.up h.knows_up;
  knows_left = still_nothing got pair.left h.lower h.knows_left;
  knows_right = still_nothing got pair.right h.upper h.knows_right;
  above = h.above;
  is_left = h.is_left;
  is_right = h.is_right;
  points = h.points;
}

-- a page above the leaves that has the key, as it is known now, points to the child and to these
-- beside it
pub above_family : {parent i : ℕ} {key : FieldList} (p q : TreePass)
    (asked : Option Siblings) (held : HoldsInner (view p) parent i mode.Ge key)
    → StillKnows p parent q
    → ((s : Siblings) → asked ≡ Some s → PointsAtPair held.page.is.page.rows s.left s.right)
    → HoldsAboveIf (view q) parent asked i
above_family p q asked held still points = record {
  level = held.level;
  up = held.frame;
  knows = still held.frame held.knows;
  above = held.page.is;
  points = points;
}

-- both pages were taken and given back
module _ {p q r : TreePass} {pair : Pair} {asked : Siblings} {i : ℕ} {key : FieldList}
    (took : TakesPair p pair asked i key q) (gave : GoesTo q i key (pair.parent ∷ []) r)
    (still : StillKnows q pair.parent r) where
  abbrev pub taken_back : ComesBack p pair.parent i key r
  taken_back = record {
    to = to_both took.to gave;
    up = took.held.up;
    knows = still took.held.up took.held.knows_up;
    inside = tree_page_inside took.held.up i (suc took.held.level) took.held.above;
  }

  pub taken_still : StillKnows p pair.parent r
  taken_still f knows = still f (took.still f knows)

-- and so after nothing was done between
pub failed_back : {p q r s : TreePass} {pair : Pair} {asked : Siblings} {i : ℕ} {key : FieldList}
    → TakesPair p pair asked i key q → GetsNothing q r → GoesTo r i key (pair.parent ∷ []) s
    → StillKnows r pair.parent s → ComesBack p pair.parent i key s
failed_back {pair = pair} took got gave still =
    taken_back took (to_both (way_nothing got took.to.way) gave)
    (λ f knows. still f (still_nothing got pair.parent f knows))

-- an answer that two pages were merged is not that none were
pub merged_or_not : (r : Result Bool NoMemory) → r ≡ Ok true → r ≡ Ok false → ⊥
merged_or_not r merged not = absurd cc

-- a want of memory is neither answer
pub refused_or_not : (r : Result Bool NoMemory) (e : NoMemory) (merged : Bool) → r ≡ Err e
    → r ≡ Ok merged → ⊥
refused_or_not r e merged refused answered = absurd cc
