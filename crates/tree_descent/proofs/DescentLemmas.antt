-- Ways in vain, and the one that comes to the leaf.
use Rattle.std.proofs.Common.{◌≡◌, ℕ, ◌<◌, None, [], ◌∷◌, ◌++◌, sym, ap, subst, ◌∙◌, refl, arith}
use mathlib.Core.Option.{some}
use lib.ListN.{get_elem?}
use Rattle.key_tuple.specs.Order.{FieldList}
use Rattle.key_tuple.specs.declared.mode.Mode.{Mode}
use Rattle.latch_law.specs.declared.knows.Terms.{Terms}
use Rattle.latch_space.specs.Has.{IsKnown}
use Rattle.latch_space.specs.Passes.{view}
use Rattle.index_page.specs.declared.spot.Spot.{Spot}
use Rattle.index_page.specs.Search.{Finds}
use Rattle.tree_law.specs.Pages.{IsOrderly}
use Rattle.index_law.specs.Shape.{Shape}
use Rattle.forest_law.specs.Numbers.{frame_id, frames_of}
use Rattle.forest_law.specs.State.{page_within, fields_for}
use Rattle.forest_world.specs.Held.{TreePass, shape_of_pass}
use Rattle.call_law.specs.Hands.{HoldsNoFrameBut, HoldsNoTable}
use Rattle.call_law.specs.Trace.{frame_references}
use Rattle.call_law.proofs.TableLemmas.{tables_lacked}
use Rattle.call_law.proofs.TraceLemmas.{both_added}
use Rattle.buffer_pool.specs.AsTaken.{GaveAsTaken}
use Rattle.buffer_pool.specs.Calls.{Does, GetsNothing}
use Rattle.buffer_pool.proofs.AsTakenLemmas.{both_as_taken}
use Rattle.buffer_pool.proofs.CallLemmas.{does_both, does_none}
use Rattle.tree_descent.specs.Descents.{Descends}
use Rattle.tree_descent.specs.Leaves.{HasCutWithin, cut_in}
use Rattle.tree_descent.specs.Paths.{LeadFromRoot}
use Rattle.tree_descent.specs.Ways.{ComesDown}
use Rattle.tree_descent.proofs.WayLemmas.{frames_both}

module _ (p q : TreePass) (vain : GetsNothing p q) where
  -- after ways in vain all is held as before
  pub vain_shape : shape_of_pass q ≡ shape_of_pass p
  vain_shape = ap (λ (t : Terms Shape). t.shape) vain.silently.does.adds.numbers.terms

  vain_lacks : (k : ℕ) → get_elem? (view p).held k ≡ some None
      → get_elem? (view q).held k ≡ some None
  vain_lacks k lacks = vain.silently.does.rest k tt ∙ lacks

  pub vain_frames : HoldsNoFrameBut (view p) [] → HoldsNoFrameBut (view q) []
  vain_frames frames c below apart = subst
      (λ (s : Shape). get_elem? (view q).held (frame_id s c) ≡ some None) (sym vain_shape)
      (vain_lacks (frame_id (shape_of_pass p) c)
      (frames c (subst (λ (s : Shape). c < frames_of s) vain_shape below) tt))

  pub vain_tables : HoldsNoTable (view p) → HoldsNoTable (view q)
  vain_tables = tables_lacked (view p) (view q) vain_shape (λ k table. vain_lacks k)

module _ (p q : TreePass) (vain : GaveAsTaken p q) where
  module _ (r : TreePass) (i : ℕ) (mode : Mode) (tuple : FieldList) (b : ℕ)
      (down : ComesDown q (cut_in (shape_of_pass q) i mode tuple) i b r) where
    leaf_does : Does q r (frame_id (shape_of_pass p) b ∷ []) down.way.silently.added
    leaf_does = subst (λ (s : Shape). Does q r (frame_id s b ∷ []) down.way.silently.added)
        (vain_shape p q vain.got) down.way.silently.does

    -- the way that comes to the leaf after ways in vain is a descent
    pub descends : (spot : Spot) → Finds mode tuple down.way.page.is.page.rows spot
        → Descends p i mode tuple (record { block = b; spot = spot }) r
    descends spot finds = let k = frame_id (shape_of_pass p) b in
        let a = vain.got.silently.added in
        let way = down.way in
        record {
          silently = record {
            added = both_added a way.silently.added;
            does = does_both p q r (k ∷ []) a way.silently.added
                (does_none p q a (k ∷ []) vain.got.silently.does) leaf_does;
            silent = λ j. vain.got.silently.silent j ++ way.silently.silent j;
          };
          as_taken = both_as_taken a.references way.silently.added.references vain.as_taken
              way.as_taken;
          lacked = sym (vain.got.silently.does.rest k tt)
              ∙ subst (λ (s : Shape). get_elem? (view q).held (frame_id s b) ≡ some None)
              (vain_shape p q vain.got) way.lacked;
          frame = way.frame;
          knows = way.knows;
          held_as_taken = way.held_as_taken;
          is = record {
            page = record {
              is = way.page.is;
              order = subst
                  (λ (s : Shape). IsOrderly (fields_for s)
                  (page_within way.page.is.page way.frame.low way.frame.high))
                  (vain_shape p q vain.got) way.page.order;
              within = subst (λ (s : Shape). HasCutWithin way.frame (cut_in s i mode tuple))
                  (vain_shape p q vain.got) down.within;
            };
            finds = finds;
          };
          path = record {
            vain = frame_references a.references;
            path = frame_references way.silently.added.references;
            references = frames_both a.references way.silently.added.references;
            leads = subst
                (λ (s : Shape). LeadFromRoot s (cut_in s i mode tuple) i 0
                way.page.is.page.head.number
                (frame_references way.silently.added.references)) (vain_shape p q vain.got)
                way.leads;
          };
          count = (let x = vain.got.count in let y = way.count in omega (arith, x, y));
        }
