-- The key's row, to which the hash led.
use Rattle.std.proofs.Common.{◌≡◌, inl, ℕ, Bool, true, Some, length, sym, subst, ◌∙◌, refl}
use Rattle.key_tuple.specs.Order.{FieldList}
use Rattle.key_tuple.specs.declared.mode.Mode.{Mode}
use Rattle.key_tuple.specs.declared.mode.Mode.TheVariants.{Ge}
use Rattle.key_tuple.proofs.PlaceLemmas.{key_exact}
use Rattle.key_tuple.proofs.TupleLemmas.{tuple_cmp-whole}
use Rattle.latch_space.specs.Passes.{view}
use Rattle.map_history.specs.declared.columns.How.TheVariants as how
use Rattle.map_history.specs.declared.columns.Note.{Note}
use Rattle.search_info.specs.declared.knows.Knows.{Knows}
use Rattle.search_info.specs.declared.outcome.Learn.{Learn}
use Rattle.index_page.specs.Page.{IsRowOf, IsPageInOrder}
use Rattle.index_page.specs.Rows.{find_row}
use Rattle.index_page.specs.Search.{Finds}
use Rattle.index_page.specs.declared.spot.Spot.{Spot}
use Rattle.index_page.proofs.RowLemmas.{each_found}
use Rattle.guess_check.proofs.CheckLemmas.{checked}
use Rattle.forest_law.specs.State.{fields_for}
use Rattle.forest_world.specs.Held.{TreePass, shape_of_pass}
use Rattle.buffer_pool.specs.Forests.{IsFittedTree}
use Rattle.hash_guess.specs.Guesses.{GuessHits}
use Rattle.hash_guess.specs.Hits.{HoldsHit}
use Rattle.hash_guess.proofs.HitLemmas.{found_at}
use Rattle.page_view.proofs.RowSpotLemmas.{row_spot}
use Rattle.tree_descent.specs.Ways.{HoldsPage}
use Rattle.leaf_search.specs.declared.searched.Searched.{Searched}
use Rattle.leaf_search.specs.Hows.{note_of_hit}
use Rattle.leaf_search.specs.KeySearches.{HitsKey}
use Rattle.leaf_search.specs.Searches.{Searches}
use Rattle.leaf_search.specs.Traces.{SearchTrace}
use Rattle.leaf_search.proofs.HitLemmas.{hit_leaf, whole_there}
use Rattle.leaf_search.proofs.SearchLemmas.{hit_whole, searches_hit}

-- what such a search told, with the key's spot
abbrev pub told_hit : ℕ → Spot → Note → Searched
told_hit block spot note =
    record { leaf = record { block = block; spot = spot }; how = how.Hit; note = note }

module _ (p q : TreePass) (l m : Knows) (i : ℕ) (mode : Mode) (key : FieldList)
    (whole : length key ≡ fields_for (shape_of_pass p) i) (fitted : IsFittedTree (view q))
    (block place : ℕ) (note : Note) (hits : HitsKey p l i mode key block place note q m) where
  abbrev hit : HoldsHit (view q) i mode key block place true
  hit = hits.guess.hits.hit

  -- the key has as many fields as those of the index, as before
  pub whole_after : length key ≡ fields_for (shape_of_pass q) i
  whole_after = hit_whole whole fitted hits.guess

  -- its leaf is held
  abbrev pub leaf_there : HoldsPage (view q) block i 0
  leaf_there = hit_leaf fitted hit whole_after

  long : length key ≡ hit.is.page.head.fields
  long = whole_there fitted hit whole_after

  -- it stands at the place
  pub row_there : find_row place hit.is.page.rows ≡ Some hit.checks.row
  row_there = found_at hit.is.page.rows hit.checks.left hit.checks.row hit.checks.right
      hit.checks.split hits.order.places place hit.checks.place_is

  -- and has the key
  pub row_key : hit.checks.row.key ≡ key
  row_key = let of : IsRowOf hit.is.page.head hit.checks.row =
      each_found (IsRowOf hit.is.page.head) hit.is.page.rows place hit.checks.row hits.order.each
      row_there in
      sym (key_exact key hit.checks.row.key
      (sym (tuple_cmp-whole key hit.checks.row.key (long ∙ sym of.fields))
      ∙ checked.found mode key hit.is.page hit.checks.left hit.checks.row hit.checks.right
      (sym hit.checks.is)))

  -- so the key belongs at a spot
  pub spot_there : (spot : Spot) × Finds Ge key hit.is.page.rows spot
  spot_there = row_spot hit.is.page place hit.checks.row key hits.order long row_there row_key

  -- and the search is one that found its leaf
  pub key_searches : (spot : Spot) → Finds Ge key hit.is.page.rows spot
      → Searches p l i key (told_hit block spot note) q m
  key_searches spot finds = subst (λ z. Searches p l i key (told_hit block spot z) q m)
      (sym hits.note_is)
      (searches_hit whole fitted hits.guess spot finds)

-- which was traced so
pub key_traces : (p q : TreePass) (l m : Knows) (i : ℕ) (mode : Mode) (key : FieldList)
    (block place : ℕ) (note : Note) → HitsKey p l i mode key block place note q m → (spot : Spot)
    → SearchTrace p l i mode key (told_hit block spot note) q m
key_traces p q l m i mode key block place note hits spot = inl (record {
  place = place;
  found = true;
  learn = hits.learn;
  guess = hits.guess;
  how_is = refl;
  note_is = hits.note_is;
})

-- so it is where the guess found the very key
pub hits_key : {p q : TreePass} {l m : Knows} {i : ℕ} {mode : Mode} {key : FieldList}
    {block place : ℕ} {note : Note} {learn : Learn} {found : Bool} → found ≡ true
    → (guess : GuessHits p l i mode key block place found learn q m)
    → IsPageInOrder guess.hits.hit.is.page → note ≡ note_of_hit learn
    → HitsKey p l i mode key block place note q m
hits_key {p} {q} {l} {m} {i} {mode} {key} {block} {place} {learn = learn} is guess order told =
    let both = subst (λ b. (g : GuessHits p l i mode key block place b learn q m)
    × IsPageInOrder g.hits.hit.is.page) is (guess, order) in record {
      learn = learn;
      guess = both.0;
      order = both.1;
      note_is = told;
    }
