-- Two children were merged, on the way up.
use Rattle.std.proofs.Common.{◌≡◌, ◌≢◌, ℕ, suc, ◌<◌, List, [], ◌∷◌, ◌++◌, sym, ap, subst, ◌∙◌, arith}
use lib.ListN.{get_elem?}
use Rattle.key_tuple.specs.Order.{FieldList}
use Rattle.latch_space.specs.Passes.{view}
use Rattle.index_page.specs.declared.head.PageHead.{PageHead}
use Rattle.index_page.specs.Loads.{load_of}
use Rattle.index_page.specs.Page.{PageRows}
use Rattle.index_page.specs.Rows.{Child}
use Rattle.index_page.proofs.AppendLemmas.{load_same}
use Rattle.index_page.specs.LoadLaws.{LoadsAddUp}
use Rattle.tree_law.specs.Pages.{is_own}
use Rattle.index_law.specs.Shape.{Shape}
use Rattle.forest_law.specs.declared.objects.Frame.{Frame}
use Rattle.forest_law.specs.Numbers.{frame_id}
use Rattle.forest_world.specs.Held.{TreePass, shape_of_pass}
use Rattle.call_law.specs.Hands.{KnowsFrame}
use Rattle.buffer_pool.specs.Calls.{Does, DoesSilently}
use Rattle.buffer_pool.specs.Forests.{IsFittedTree}
use Rattle.buffer_pool.specs.Pages.{HasTreePage}
use Rattle.call_law.proofs.TraceLemmas.{both_added}
use Rattle.buffer_pool.proofs.AddedLemmas.{frame_no_tree, frame_still, tree_still}
use Rattle.buffer_pool.proofs.CallLemmas.{does_both, does_among}
use Rattle.tree_smo.proofs.LawfulLemmas.{that_page}
use Rattle.tree_smo.proofs.SilentLemmas.{does_shape}
use Rattle.tree_growth.specs.Ways.{IsGoingDown}
use Rattle.tree_growth.proofs.HandLemmas.{frames_apart}
use Rattle.tree_shrinking.specs.Merging.{CanMerge, MergesChildren}
use Rattle.tree_shrinking.specs.Pairs.{GoesTo, HoldsJoined}
use Rattle.tree_shrinking.specs.Shrinking.{pages_freed}
use Rattle.tree_shrinking.proofs.GivenLemmas.{freed_append, one_freed}
use Rattle.tree_shrinking.proofs.MergePlanLemmas.{right_apart, pair_apart}
use Rattle.tree_shrinking.proofs.WayLemmas.{way_without}

module _ {p q : TreePass} {parent left right i : ℕ} {key : FieldList} (fitted : IsFittedTree (view p))
    (way : IsGoingDown p i key (parent ∷ left ∷ right ∷ []))
    (made : MergesChildren p parent left right i q) where
  abbrev m : TreePass
  m = made.settled

  abbrev can : CanMerge (view p) parent left right i
  can = made.merges.was

  abbrev shape_is : shape_of_pass m ≡ shape_of_pass p
  shape_is = let s = made.merges.silently in
      does_shape p m (frame_id (shape_of_pass p) parent ∷ frame_id (shape_of_pass p) left
      ∷ frame_id (shape_of_pass p) right ∷ []) s.added s.does

  abbrev ids : List ℕ
  ids = frame_id (shape_of_pass p) parent ∷ frame_id (shape_of_pass p) left
      ∷ frame_id (shape_of_pass p) right ∷ []

  abbrev freed : Does m q (frame_id (shape_of_pass p) right ∷ []) made.frees.silently.added
  freed = subst (λ (s : Shape). Does m q (frame_id s right ∷ []) made.frees.silently.added)
      shape_is made.frees.silently.does

  abbrev all : DoesSilently p q ids
  all = let a = made.merges.silently in let b = made.frees.silently in record {
    added = both_added a.added b.added;
    does = does_both p m q ids a.added b.added a.does
        (does_among m q b.added (frame_id (shape_of_pass p) right ∷ []) ids
        (λ k apart. (apart.1.1.0, tt)) freed);
    silent = λ k. a.silent k ++ b.silent k;
  }

  abbrev shapes : shape_of_pass q ≡ shape_of_pass p
  shapes = does_shape p q ids all.added all.does

  -- the parent and the left page alone are in hand
  unfoldable pub way_joined : GoesTo p i key (parent ∷ left ∷ []) q
  way_joined = let had = way.count in let same = made.merges.count in
      let less = made.frees.count in
      way_without way right ids all.added
      all.does.adds all.silent all.does.rest all.does.known
      (ap (λ (s : Shape). get_elem? (view q).held (frame_id s right)) (sym shapes)
      ∙ made.frees.lacks)
      (λ k not ne each. (
        (each.0, (each.1.0, (ne, tt))),
        (each.0, (each.1.0, (ne, tt))),
      )) way.tree
      (tree_still (view p) (view q) ids all.does.rest i (
        λ e. frame_no_tree (shape_of_pass p) parent i way.index (sym e),
        (
          λ e. frame_no_tree (shape_of_pass p) left i way.index (sym e),
          (λ e. frame_no_tree (shape_of_pass p) right i way.index (sym e), tt),
        ),
      ) way.tree way.knows)
      (omega (arith, had, same, less))

  -- and a page was freed
  pub joined_freed : 0 < pages_freed way_joined.goes.added.references
  unfolding way_joined way_without
  joined_freed =
      let a = made.merges.silently.added.references in
      let b = made.frees.silently.added.references in
      let sum = freed_append a b in
      let one = one_freed b (frame_id (shape_of_pass m) right) made.frees.gave.taken
      made.frees.frame made.frees.gave.among made.frees.empty in
      omega (arith, sum, one)

  apart_parent : right ≢ parent
  apart_parent = right_apart fitted can

  apart_left : right ≢ left
  apart_left = pair_apart fitted can

  -- another frame is known as before the right one's number was freed
  still : (b : ℕ) (f : Frame) → right ≢ b → KnowsFrame (view m) b f → KnowsFrame (view q) b f
  still b f ne knows = frame_still (view m) (view q) (frame_id (shape_of_pass m) right ∷ [])
      made.frees.silently.does.adds.numbers made.frees.silently.does.rest b
      (frames_apart (shape_of_pass m) b right (λ e. ne (sym e)), tt) f knows

  left_is : can.is_left.page ≡ made.merges.merges.merge.page
  left_is = that_page can.lower can.is_left.page made.merges.merges.merge.page can.is_left.paged
      made.merges.merges.merge.had

  right_is : can.is_right.page ≡ made.merges.merges.merge.other
  right_is = that_page can.upper can.is_right.page made.merges.merges.merge.other
      can.is_right.paged made.merges.merges.merge.had_other

  up_is : can.above.page ≡ made.merges.merges.pointer.was.page
  up_is = that_page can.up can.above.page made.merges.merges.pointer.was.page can.above.paged
      made.merges.merges.pointer.was.has

  abbrev parent_page : HasTreePage made.merges.up i (suc can.level)
  parent_page = let d = made.merges.merges.pointer in record {
    page = d.new;
    paged = ap (λ (f : Frame). f.page) d.kept;
    tree = ap (λ (h : PageHead). is_own h.number h.prev) d.head
        ∙ (ap (λ (x : PageRows). is_own x.head.number x.head.prev) (sym up_is) ∙ can.above.tree);
    index = ap (λ h. h.index) d.head
        ∙ (ap (λ (x : PageRows). x.head.index) (sym up_is) ∙ can.above.index);
    at_level = ap (λ h. h.level) d.head
        ∙ (ap (λ (x : PageRows). x.head.level) (sym up_is) ∙ can.above.at_level);
  }

  abbrev child_page : HasTreePage made.merges.whole i can.level
  child_page = let g = made.merges.merges.merge in record {
    page = g.whole;
    paged = g.has;
    tree = ap (λ (h : PageHead). is_own h.number h.prev) g.merges.head
        ∙ (ap (λ (x : PageRows). is_own x.head.number x.head.prev) (sym left_is)
        ∙ can.is_left.tree);
    index = ap (λ h. h.index) g.merges.head
        ∙ (ap (λ (x : PageRows). x.head.index) (sym left_is) ∙ can.is_left.index);
    at_level = ap (λ h. h.level) g.merges.head
        ∙ (ap (λ (x : PageRows). x.head.level) (sym left_is) ∙ can.is_left.at_level);
  }

  pub holds_joined : LoadsAddUp → HoldsJoined (view q) parent left i
  holds_joined adds =
      let g = made.merges.merges.merge in
      let d = made.merges.merges.pointer in
      let sum = ap load_of g.merges.behind ∙ adds.merged g.page.rows g.merges.moved in
      let moved = load_same g.other.rows g.merges.moved g.merges.same in
      let a = ap (λ (x : PageRows). load_of x.rows) left_is in
      let b = ap (λ (x : PageRows). load_of x.rows) right_is in
      let fits = can.fits in
      record {
        level = can.level;
        up = made.merges.up;
        low = made.merges.whole;
        knows_up = still parent made.merges.up apart_parent made.merges.knows_up;
        knows_low = still left made.merges.whole apart_left made.merges.knows_whole;
        above = parent_page;
        below = child_page;
        points = record {
          fore = d.was.fore;
          this = d.was.this;
          aft = d.was.aft;
          was = d.is;
          child = d.was.this_is ∙ ap (λ (h : PageHead). Child h.number) (sym g.merges.head);
        };
        fits = omega (arith, sum, moved, a, b, fits);
      }
