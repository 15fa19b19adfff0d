-- What stays lawful where objects and lists are led to.
use Rattle.std.proofs.Common.{◌≡◌, inl, inr, ℕ, true, [], List, length, sym, ap, subst, ◌∙◌, Option, Some}
use mathlib.Core.Path.{fun_ext}
use lib.ListN.{get_elem?}
use Rattle.map_history.specs.Map.{MapChange, Ascends, is_allowed, key_of}
use Rattle.map_history.proofs.HistoryLemmas.{map_after-ascends, allowed-by_value}
use Rattle.tree_law.specs.Pages.{AreLawfulPages, row_pairs}
use Rattle.tree_law.specs.PageChanges.{LeadTo}
use Rattle.tree_law.proofs.ReachLemmas.{moves_keep}
use Rattle.tree_law.proofs.SearchLemmas.{has_value}
use Rattle.index_law.specs.Answers.{MadeChange}
use Rattle.forest_law.specs.Lists.{AreLawfulLists}
use Rattle.index_law.specs.Shape.{Shape}
use Rattle.index_law.specs.State.{Entries, changes}
use Rattle.forest_law.specs.declared.objects.Object.{Object}
use Rattle.forest_law.specs.declared.objects.Object.TheVariants as object
use Rattle.forest_law.specs.Numbers.{frame_id}
use Rattle.forest_law.specs.State.{page_of, where_at, places, page_where, pages_of, heights_of, list_of, maps_of, fields_for}
use Rattle.forest_law.specs.Turns.{page_changes}
use Rattle.forest_law.specs.Trees.{MapsLead}
use Rattle.forest_law.specs.Lists.{IsOnLeaf}
use Rattle.forest_law.specs.Law.{AreLawfulObjects, Follows}
use Rattle.forest_law.proofs.ObjectLemmas.{Leads}
use Rattle.forest_law.proofs.KindsLemmas.{kinds_stay}
use Rattle.forest_law.proofs.HashKeptLemmas.{hash_stays}
use Rattle.forest_law.proofs.TreesLemmas.{heights_lead}
use Rattle.forest_law.proofs.PlacesLemmas.{CountsLead}
use Rattle.forest_law.proofs.PlacedLemmas.{places_counted, pages_lead, placed_stay}

-- the maps rise
pub ascend : (lists : List Entries) (i : ℕ) → Ascends (maps_of lists i)
ascend lists i = map_after-ascends (changes (list_of (get_elem? lists i)))

module _ (sh : Shape) (xs ys : List Object) (before news : List (Option Object))
    (leads : Leads xs ys before news) (lists : List Entries)
    (law : AreLawfulObjects sh xs lists) where
  -- the map allows a change that a held leaf allows
  pub map_allows : (i : ℕ) (c : MapChange) → IsOnLeaf sh before i c
      → is_allowed (maps_of lists i) c ≡ true
  map_allows i c on = let s = on.hand in let leaf = on.allows in
      let at = leads.was (frame_id sh on.block) (object.Frame s.frame) s.at in
      let is : pages_of sh xs on.number ≡ Some on.page =
      ap (page_where sh xs on.number) (ap (where_at (places xs)) (sym s.has.number)
      ∙ law.placed.named on.block s.frame s.has.rows at s.has.paged)
      ∙ (ap page_of at ∙ s.has.is) in
      sym (allowed-by_value (row_pairs on.page.rows) (maps_of lists i) c
      (has_value sh.indexes (fields_for sh) (heights_of xs) (maps_of lists)
      (pages_of sh xs) law.pages i on.number on.page
      (record { is = is; tree = leaf.tree; index = leaf.index; leaf = leaf.leaf })
      (key_of c) leaf.inside))
      ∙ leaf.allowed

  module _ (lists' : List Entries) (change : Option (ℕ × MadeChange))
      (f : Follows sh before news change)
      (maps_lead : MapsLead change (maps_of lists) (maps_of lists')) where
    -- the pages become what the turns make of them
    pub lead : LeadTo (pages_of sh xs) (pages_of sh ys) (page_changes f.turns)
    lead = pages_lead sh xs ys before news leads law.kinds f.kinds f.turns law.placed f.each f.frames
        f.pool

    -- a step without changes leaves the pages
    pages_rest : page_changes f.turns ≡ [] → heights_of ys ≡ heights_of xs
        → maps_of lists' ≡ maps_of lists
        → AreLawfulPages sh.indexes (fields_for sh) (heights_of ys) (maps_of lists') (pages_of sh ys)
    pages_rest none heights maps = let pages : pages_of sh ys ≡ pages_of sh xs =
        fun_ext (λ n. (subst (LeadTo (pages_of sh xs) (pages_of sh ys)) none lead).others n tt) in
        subst (λ h. AreLawfulPages sh.indexes (fields_for sh) h (maps_of lists') (pages_of sh ys))
        (sym heights)
        (subst (λ m. AreLawfulPages sh.indexes (fields_for sh) (heights_of xs) m (pages_of sh ys))
        (sym maps)
        (subst (AreLawfulPages sh.indexes (fields_for sh) (heights_of xs) (maps_of lists))
        (sym pages) law.pages))

    -- the pages stay lawful
    pages_stay : AreLawfulPages sh.indexes (fields_for sh) (heights_of ys) (maps_of lists')
        (pages_of sh ys)
    pages_stay = elim (f.pages (heights_of xs) (heights_of ys)
        (heights_lead xs ys before news leads f.kinds) (maps_of lists) (maps_of lists') maps_lead) [
          | inl rests ↦ pages_rest rests.0 rests.1 rests.2
          | inr move ↦
              moves_keep sh.indexes (fields_for sh) (heights_of xs) (heights_of ys) (maps_of lists)
              (maps_of lists') (ascend lists) (pages_of sh xs) (pages_of sh ys)
              (page_changes f.turns) lead move f.order law.pages
        ]

    -- all objects stay lawful
    pub objects_stay : length ys ≡ length xs → length lists' ≡ length lists → AreLawfulLists lists'
        → AreLawfulObjects sh ys lists'
    objects_stay same longer lawful = record {
      counted = assumption (same ∙ law.counted.objects, many.named ∙ law.counted.places, many.stored ∙ law.counted.images, many.aged ∙ law.counted.ages, longer ∙ law.counted.lists);
      kinds = kinds_stay sh xs ys before news leads law.kinds f.kinds;
      placed = placed_stay sh xs ys before news leads law.kinds f.kinds f.turns law.placed f.each
          f.frames f.pool;
      hashed = hash_stays sh xs ys before news leads f.kinds law.hashed f.hash;
      lists = lawful;
      pages = pages_stay;
    }
      where
        many : CountsLead sh xs ys before news leads law.kinds f.kinds f.turns law.placed f.each
        many = places_counted sh xs ys before news leads law.kinds f.kinds f.turns law.placed f.each
            f.frames f.pool
