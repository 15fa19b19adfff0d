-- The leaf of a hit is the leaf of the key.
use Rattle.std.proofs.Common.{◌≡◌, ℕ, Bool, true, false, Option, Some, None, length, sym, ap, subst, ◌∙◌}
use lib.ListN.{get_elem?}
use Rattle.key_tuple.specs.KeyPlace.{At, within}
use Rattle.key_tuple.specs.Order.{FieldList}
use Rattle.key_tuple.specs.Position.{HasPosition, IsOfFields}
use Rattle.key_tuple.specs.declared.mode.Mode.{Mode}
use Rattle.key_tuple.specs.declared.mode.Mode.TheVariants.{Ge}
use Rattle.key_tuple.proofs.PositionLemmas.{of_key}
use Rattle.latch_law.specs.Views.{holding}
use Rattle.tree_law.specs.GuessCheck.{IsLeaf, PassesCheck}
use Rattle.tree_law.specs.Pages.{HasFields, IsOrderly, Page, high_place, low_place}
use Rattle.guess_check.proofs.CheckLemmas.{checked}
use Rattle.index_law.specs.Shape.{Shape}
use Rattle.forest_law.specs.declared.objects.Object.TheVariants as object
use Rattle.forest_law.specs.FramePages.{TellsPage}
use Rattle.forest_law.specs.Numbers.{frame_id}
use Rattle.forest_law.specs.State.{ForestState, bound, page_within, pages_of, heights_of, maps_of, fields_for}
use Rattle.forest_law.proofs.FramePageLemmas.{frames_tell_pages}
use Rattle.call_law.specs.Spoken.{View}
use Rattle.buffer_pool.specs.Forests.{IsFittedTree}
use Rattle.hash_guess.specs.Hits.{HoldsHit}
use Rattle.tree_descent.specs.Leaves.{IsPageFor, cut_in}
use Rattle.tree_descent.specs.Ways.{HoldsPage}
use Rattle.leaf_search.proofs.KeyLemmas.{passed_within}

-- a bound has the fields of its page, or there is none
low_fields : (n : ℕ) (o : Option FieldList) → HasFields n o → IsOfFields n (low_place o)
low_fields n None has = tt
low_fields n (Some k) has = has

high_fields : (n : ℕ) (o : Option FieldList) → HasFields n o → IsOfFields n (high_place o)
high_fields n None has = tt
high_fields n (Some k) has = has

module _ (v : View) (fitted : IsFittedTree v) (i : ℕ) (mode : Mode) (key : FieldList)
    (block place : ℕ) (found : Bool) (hit : HoldsHit v i mode key block place found)
    (whole : length key ≡ fields_for v.terms.shape i) where
  abbrev w : ForestState
  w = fitted.whole

  tells : TellsPage w hit.frame hit.is.page
  tells = frames_tell_pages w fitted.is_lawful block hit.frame hit.is.page
      (ap (λ (s : Shape). get_elem? w.objects (frame_id s block)) fitted.fits.shape
      ∙ fitted.fits.known (frame_id v.terms.shape block)
      (holding hit.knows.0 (object.Frame hit.frame)) hit.knows.1) hit.is.paged

  abbrev page_there : Page
  page_there = page_within hit.is.page hit.frame.low hit.frame.high

  leaf : IsLeaf (pages_of w.shape w.objects) i hit.is.page.head.number page_there
  leaf = record {
    is = tells.is;
    tree = hit.is.tree;
    index = hit.is.index;
    leaf = hit.is.at_level;
  }

  pub hit_order : IsOrderly (fields_for v.terms.shape) page_there
  hit_order = subst (λ (s : Shape). IsOrderly (fields_for s) page_there) fitted.fits.shape
      tells.order

  pub whole_there : length key ≡ hit.is.page.head.fields
  whole_there = whole
      ∙ (ap (fields_for v.terms.shape) (sym hit.is.index) ∙ sym hit_order.fields)

  passes : PassesCheck mode key page_there hit.checks.left hit.checks.row hit.checks.right
  passes = checked.told mode key hit.is.page (bound hit.frame.low) (bound hit.frame.high)
      hit.checks.left hit.checks.row hit.checks.right found (sym hit.checks.is)

  inside : within (low_place page_there.low) (high_place page_there.high) (At key) ≡ true
  inside = passed_within w.shape.indexes (fields_for w.shape) (heights_of w.objects)
      (maps_of w.lists) (pages_of w.shape w.objects) fitted.is_lawful.objects.pages i
      hit.is.page.head.number page_there leaf key whole_there hit.checks.left hit.checks.row
      hit.checks.right hit.checks.split mode passes

  at_fields : fields_for v.terms.shape i ≡ hit.is.page.head.fields
  at_fields = sym whole ∙ whole_there

  pub position : HasPosition (fields_for v.terms.shape i) Ge key (low_place (bound hit.frame.low))
      (high_place (bound hit.frame.high))
  position = of_key (fields_for v.terms.shape i) Ge key (low_place (bound hit.frame.low))
      (high_place (bound hit.frame.high)) whole
      (subst (λ n. IsOfFields n (low_place (bound hit.frame.low))) (sym at_fields)
      (low_fields hit.is.page.head.fields (bound hit.frame.low) hit_order.low))
      (subst (λ n. IsOfFields n (high_place (bound hit.frame.high))) (sym at_fields)
      (high_fields hit.is.page.head.fields (bound hit.frame.high) hit_order.high)) inside

  -- the bounds of the hit's leaf have the key
  abbrev pub hit_page : (s : Shape) → v.terms.shape ≡ s
      → IsPageFor s hit.frame i 0 (cut_in s i Ge key)
  hit_page s same = record {
    is = hit.is;
    order = subst (λ (z : Shape). IsOrderly (fields_for z) page_there) same hit_order;
    within = record {
      low = subst (λ (z : Shape). cut_in z i Ge key (low_place (bound hit.frame.low)) ≡ false) same
          position.at_low;
      high = subst (λ (z : Shape). cut_in z i Ge key (high_place (bound hit.frame.high)) ≡ true) same
          position.at_high;
    };
  }

  abbrev pub hit_leaf : HoldsPage v block i 0
  hit_leaf = record {
    frame = hit.frame;
    knows = hit.knows;
    is = hit.is;
    order = hit_order;
  }
