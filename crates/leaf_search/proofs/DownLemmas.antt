-- A way down to a leaf, and what is held before and after the lesson.
use Rattle.std.proofs.Common.{◌≡◌, ℕ, ◌≤◌, ◌+◌, sym, ap, subst, ◌∙◌, arith}
use lib.ListN.{get_elem?}
use Rattle.list_facts.proofs.Places.{same_some}
use Rattle.key_tuple.specs.Order.{FieldList}
use Rattle.key_tuple.specs.declared.mode.Mode.{Mode}
use Rattle.key_tuple.specs.declared.mode.Mode.TheVariants.{Ge}
use Rattle.latch_law.specs.declared.knows.Terms.{Terms}
use Rattle.latch_space.specs.Passes.{view, count}
use Rattle.learning.specs.declared.event.Figures.{Figures}
use Rattle.map_history.specs.declared.columns.Note.{Note}
use Rattle.search_info.specs.declared.knows.Knows.{Knows}
use Rattle.index_page.specs.Page.{PageRows}
use Rattle.index_page.specs.Search.{Finds}
use Rattle.tree_law.specs.Pages.{IsOrderly}
use Rattle.index_law.specs.Shape.{Shape}
use Rattle.forest_law.specs.declared.objects.Frame.{Frame}
use Rattle.forest_law.specs.Numbers.{frame_id}
use Rattle.forest_law.specs.State.{fields_for, page_within}
use Rattle.forest_world.specs.Held.{TreePass, shape_of_pass}
use Rattle.call_law.specs.Hands.{HoldsNoTable}
use Rattle.call_law.specs.Spoken.{View}
use Rattle.call_law.proofs.TableLemmas.{table_no_frame, tables_lacked}
use Rattle.tree_descent.specs.declared.descending.Leaf.{Leaf}
use Rattle.tree_descent.specs.Descents.{Descends}
use Rattle.tree_descent.specs.Ways.{HoldsPage}
use Rattle.tree_descent.proofs.InnerLemmas.{one_known}
use Rattle.leaf_search.specs.Downs.{SearchesDown, figures_at}
use Rattle.leaf_search.specs.Lessons.{Teaches}

module _ {p q : TreePass} {i : ℕ} {mode : Mode} {key : FieldList} {way : Leaf}
    (went : Descends p i mode key way q) where
  pub went_shape : shape_of_pass q ≡ shape_of_pass p
  went_shape = ap (λ (t : Terms Shape). t.shape) went.silently.does.adds.numbers.terms

  -- the leaf is held
  abbrev pub went_leaf : HoldsPage (view q) way.block i 0
  went_leaf = record {
    frame = went.frame;
    knows = went.knows;
    is = went.is.page.is;
    order = subst (λ (s : Shape). IsOrderly (fields_for s)
        (page_within went.is.page.is.page went.frame.low went.frame.high)) (sym went_shape)
        went.is.page.order;
  }

  -- and neither the pool nor a partition
  pub went_tables : HoldsNoTable (view p) → HoldsNoTable (view q)
  went_tables none = tables_lacked (view p) (view q) went_shape (λ k table lacks.
      went.silently.does.rest k (table_no_frame (shape_of_pass p) k way.block table, tt) ∙ lacks)
      none

  pub went_room : count p + 3 ≤ 16 → count q + 2 ≤ 16
  went_room room = let counted = went.count in omega (arith, counted, room)

-- once it was learnt from, the leaf is held still
module _ (q r : TreePass) (l m : Knows) (i b : ℕ) (figures : Figures) (told : Note)
    (taught : Teaches q l i b figures told r m) where
  pub taught_shape : shape_of_pass r ≡ shape_of_pass q
  taught_shape = ap (λ (t : Terms Shape). t.shape) taught.becomes.does.adds.numbers.terms

  abbrev pub taught_leaf : HoldsPage (view r) b i 0
  taught_leaf = record {
    frame = taught.new;
    knows = (
      taught.becomes.taken,
      ap (λ (s : Shape). get_elem? (view r).held (frame_id s b)) taught_shape ∙ taught.becomes.is,
    );
    is = search (taught.same.page ∙ taught.leaf.is.paged);
    order = subst (λ (s : Shape). IsOrderly (fields_for s)
        (page_within taught.leaf.is.page taught.new.low taught.new.high)) (sym taught_shape)
        (subst (IsOrderly (fields_for (shape_of_pass q)))
        (λ j. page_within taught.leaf.is.page (sym taught.same.low j) (sym taught.same.high j))
        taught.leaf.order);
  }

-- a block that is held has one page
pub held_page : (v : View) (b i : ℕ) (h k : HoldsPage v b i 0) → h.is.page ≡ k.is.page
held_page v b i h k = same_some h.is.page k.is.page
    (sym h.is.paged
    ∙ (ap (λ (z : Frame). z.page) (one_known v b h.frame k.frame h.knows k.knows) ∙ k.is.paged))

-- the leaf that taught is the one that the way led to
module _ {p q r : TreePass} {l m : Knows} {i : ℕ} {mode : Mode} {key : FieldList} {way : Leaf}
    {told : Note} (went : Descends p i mode key way q)
    (taught : Teaches q l i way.block (figures_at way.spot) told r m) where
  pub taught_frame : taught.leaf.frame ≡ went.frame
  taught_frame = one_known (view q) way.block taught.leaf.frame went.frame taught.leaf.knows
      went.knows

  pub taught_page : taught.leaf.is.page ≡ went.is.page.is.page
  taught_page = same_some taught.leaf.is.page went.is.page.is.page
      (sym taught.leaf.is.paged
      ∙ (ap (λ (z : Frame). z.page) taught_frame ∙ went.is.page.is.paged))

  -- and the spot is one on it
  pub searches_down : (leaf : Leaf) → leaf.block ≡ way.block
      → Finds Ge key taught.leaf.is.page.rows leaf.spot
      → SearchesDown p l i mode key leaf told r m
  searches_down leaf is finds = record {
    between = q;
    way = way;
    went = went;
    taught = taught;
    block_is = is;
    finds = subst (λ (z : PageRows). Finds Ge key z.rows leaf.spot) taught_page finds;
  }

  -- the spot of the way is one on it still
  pub way_finds : (h : HoldsPage (view r) way.block i 0) → Finds mode key h.is.page.rows way.spot
  way_finds h = subst (λ (z : PageRows). Finds mode key z.rows way.spot)
      (sym (held_page (view r) way.block i h
      (taught_leaf q r l m i way.block (figures_at way.spot) told taught) ∙ taught_page))
      went.is.finds
