-- The leaf of a key that a search found is held alone, and perhaps the key's row is known there.
use Rattle.std.proofs.Common.{◌≡◌, ℕ, ◌<◌, length, sym, ap, ◌∙◌, subst, arith}
use Rattle.key_tuple.specs.Order.{FieldList}
use Rattle.key_tuple.specs.declared.mode.Mode.TheVariants.{Ge}
use Rattle.latch_law.specs.declared.knows.Terms.{Terms}
use Rattle.latch_space.specs.Passes.{view, count}
use Rattle.latch_space.specs.Spaces.{IsPassOf}
use Rattle.latch_space.proofs.Pointwise.{lacks_each}
use Rattle.map_history.specs.declared.columns.Note.{Note}
use Rattle.search_info.specs.declared.knows.Knows.{Knows}
use Rattle.index_page.specs.Page.{PageRows}
use Rattle.index_page.specs.declared.spot.Spot.{Spot}
use Rattle.forest_law.specs.Numbers.{part_id}
use Rattle.index_law.specs.Shape.{Shape}
use Rattle.forest_law.specs.State.{fields_for, or_zero}
use Rattle.forest_world.specs.Held.{TreePass, shape_of_pass}
use Rattle.call_law.specs.Hands.{LacksObject}
use Rattle.buffer_pool.specs.Forests.{IsFittedTree}
use Rattle.buffer_pool.proofs.SpaceLemmas.{objects_of}
use Rattle.page_view.specs.Finding.{HasRow}
use Rattle.page_view.proofs.ValueLemmas.{has_row}
use Rattle.leaf_search.specs.declared.searched.Searched.{Searched}
use Rattle.leaf_search.specs.KeySearches.{HitsKey}
use Rattle.leaf_search.specs.Searches.{Searches}
use Rattle.leaf_search.proofs.KeyRowLemmas.{key_searches, row_key, row_there, spot_there, told_hit}
use Rattle.index_engine.specs.declared.engine.Engine.{Engine}
use Rattle.index_engine.specs.Engines.{FitsKey}
use Rattle.leaf_changes.specs.Holds.{HoldsFreshAlone, HoldsKeyRow}
use Rattle.index_engine.specs.Traces.{IsFoundBy}
use Rattle.index_engine.proofs.FreshLemmas.{fresh_leaf}
use Rattle.engine_law.proofs.KnownLemmas.{one_frame, same_page}
use Rattle.index_engine.proofs.WayLemmas.{by_search}

-- a key of the index has as many fields as the index's keys
pub key_whole : (engine : Engine) (p : TreePass) (i : ℕ) (key : FieldList) → FitsKey engine i key
    → IsPassOf engine.space p → length key ≡ fields_for (shape_of_pass p) i
key_whole engine p i key fits own = ap or_zero (sym fits)
    ∙ ap (λ (t : Terms Shape). fields_for t.shape i) (sym own.1)

-- who holds nothing has no partition
pub free_parts : (engine : Engine) (p : TreePass) → IsPassOf engine.space p → count p ≡ 0
    → (k : ℕ) → k < (shape_of_pass p).parts → LacksObject (view p) (part_id (shape_of_pass p) k)
free_parts engine p own none k below = let objects = objects_of engine.space p engine.forest own in
    lacks_each p (part_id (shape_of_pass p) k) none (omega (arith, objects, below))

module _ (p q : TreePass) (l m : Knows) (i : ℕ) (key : FieldList) (none : count p ≡ 0)
    (whole : length key ≡ fields_for (shape_of_pass p) i)
    (free : (k : ℕ) → k < (shape_of_pass p).parts
    → LacksObject (view p) (part_id (shape_of_pass p) k)) where
  -- the leaf
  pub searched_alone : (s : Searched) → Searches p l i key s q m
      → HoldsFreshAlone q s.leaf.block i key s.leaf.spot
  searched_alone s found = fresh_leaf (IsFoundBy (shape_of_pass p) i key s.how) p q i key s.leaf
      (by_search p l i key s q m found) none whole free

  -- the row
  module _ (fitted : IsFittedTree (view q)) (block place : ℕ) (note : Note)
      (hits : HitsKey p l i Ge key block place note q m) where
    pub row_spot_there : Spot
    row_spot_there = (spot_there p q l m i Ge key whole fitted block place note hits).0

    pub row_searches : Searches p l i key (told_hit block row_spot_there note) q m
    unfolding row_spot_there
    row_searches = key_searches p q l m i Ge key whole fitted block place note hits row_spot_there
        (spot_there p q l m i Ge key whole fitted block place note hits).1

    row_alone : HoldsFreshAlone q block i key row_spot_there
    row_alone = searched_alone (told_hit block row_spot_there note) row_searches

    row_page : row_alone.fresh.holds.leaf.page.is.page ≡ hits.guess.hits.hit.is.page
    row_page = let fresh = row_alone.fresh in let hit = hits.guess.hits.hit in
        same_page hit.frame fresh.frame hit.is.page fresh.holds.leaf.page.is.page
        (one_frame (view q) block fresh.frame hit.frame fresh.holds.has.held hit.knows)
        hit.is.paged fresh.holds.leaf.page.is.paged

    pub row_in_hand : HoldsKeyRow q block i place key
    row_in_hand = record {
      spot = row_spot_there;
      alone = row_alone;
      row = subst (λ (z : PageRows). HasRow z place key) (sym row_page)
          (has_row key hits.guess.hits.hit.is.page place hits.guess.hits.hit.checks.row hits.order
          hits.guess.hits.hit.is.at_level
          (row_there p q l m i Ge key whole fitted block place note hits)
          (row_key p q l m i Ge key whole fitted block place note hits));
    }
