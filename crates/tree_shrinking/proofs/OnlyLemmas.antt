-- A root that is left with one child is lifted, on the way up.
use Rattle.std.proofs.Common.{◌≡◌, ◌≢◌, ℕ, suc, ◌≤◌, List, [], ◌∷◌, ◌++◌, length, sym, ap, subst, ◌∙◌, refl, arith}
use lib.ListN.{get_elem?}
use Rattle.list_facts.proofs.Places.{same_some}
use Rattle.key_tuple.specs.Order.{FieldList}
use Rattle.latch_space.specs.Passes.{view}
use Rattle.index_page.specs.declared.head.PageHead.{PageHead}
use Rattle.index_page.specs.Page.{PageRows}
use Rattle.index_page.specs.Rows.{Row}
use Rattle.tree_law.specs.Pages.{is_own}
use Rattle.index_law.specs.Shape.{Shape}
use Rattle.forest_law.specs.Numbers.{tree_id, frame_id}
use Rattle.forest_law.specs.Outside.{HasNoOutside}
use Rattle.forest_world.specs.Held.{TreePass, shape_of_pass}
use Rattle.call_law.specs.Hands.{KnowsTree}
use Rattle.buffer_pool.specs.Calls.{DoesSilently, GetsNothing}
use Rattle.buffer_pool.specs.Frames.{GivesFrame}
use Rattle.buffer_pool.specs.Hands.{MayGiveBack}
use Rattle.buffer_pool.proofs.AddedLemmas.{frame_no_tree, frame_still, tree_still}
use Rattle.buffer_pool.proofs.CallLemmas.{silently_both}
use Rattle.buffer_pool.specs.Pages.{PointsAt}
use Rattle.buffer_pool.proofs.PageLemmas.{tree_page_inside}
use Rattle.tree_descent.proofs.PageLemmas.{may_give_back}
use Rattle.tree_smo.proofs.SilentLemmas.{silently_weaker, does_shape}
use Rattle.tree_growth.specs.Pages.{HoldsPagedFrame}
use Rattle.tree_growth.specs.Ways.{IsGoingDown}
use Rattle.tree_growth.proofs.HandLemmas.{frames_apart, still_gave}
use Rattle.tree_growth.proofs.KnownLemmas.{levels_apart}
use Rattle.tree_shrinking.specs.Lifting.{PointsAtOnly, CanLift, LiftsRoot}
use Rattle.tree_shrinking.specs.Pairs.{HoldsJoined, ComesBack}
use Rattle.tree_shrinking.proofs.TakenLemmas.{paged_frame}
use Rattle.tree_shrinking.proofs.WayLemmas.{way_without, way_gave, to_both, still_nothing, way_nothing}

-- a pointer among one row at most is the only one
points_only : (rows : List Row) (n : ℕ) → PointsAt rows n → length rows ≤ 1 → PointsAtOnly rows n
points_only rows n p few = go p.fore p.aft p.was
  where
    go : (fore aft : List Row) → rows ≡ fore ++ p.this ∷ aft → PointsAtOnly rows n
    go [] [] was = record { pointer = p.this; is = was; child = p.child }
    go [] (y ∷ aft) was = absurd (let e = ap length was in omega (arith, e, few))
    go (x ∷ []) aft was = absurd (let e = ap length was in omega (arith, e, few))
    go (x ∷ y ∷ fore) aft was = absurd (let e = ap length was in omega (arith, e, few))

module _ {p : TreePass} {parent child i : ℕ} {key : FieldList}
    (way : IsGoingDown p i key (parent ∷ child ∷ [])) (h : HoldsJoined (view p) parent child i) where
  -- the page and its parent are two
  pub joined_apart : child ≢ parent
  joined_apart = levels_apart (view p) parent child i h.level h.up h.low h.knows_up h.knows_low
      h.above h.below

  -- the page above can be read
  pub above_held : HoldsPagedFrame p parent
  above_held = paged_frame p way.known parent i (suc h.level) h.up h.knows_up h.above

  -- the child can be given back, also after nothing was done
  pub child_may_go : MayGiveBack p child
  child_may_go = may_give_back p way.known child i h.level h.low h.knows_low h.below

  pub child_still_may_go : {q : TreePass} → GetsNothing p q → MayGiveBack q child
  child_still_may_go {q} got = may_give_back q (way_nothing got way).way.known child i h.level
      h.low (still_nothing got child h.low h.knows_low) h.below

  -- the child was given back
  pub back_given : {q : TreePass} → GivesFrame p child q → ComesBack p parent i key q
  back_given {q} gave = record {
    to = way_gave way gave (λ k ne each. (each.0, (ne, tt))) refl;
    up = h.up;
    knows = still_gave p q child way.known gave parent h.up (λ e. joined_apart (sym e)) h.knows_up;
    inside = tree_page_inside h.up i (suc h.level) h.above;
  }

  -- so it was after nothing was done
  pub back_failed : {q r : TreePass} → GetsNothing p q → GivesFrame q child r
      → ComesBack p parent i key r
  back_failed {q} {r} got gave = let none = way_nothing got way in record {
    to = to_both none (way_gave none.way gave (λ k ne each. (each.0, (ne, tt))) refl);
    up = h.up;
    knows = still_gave q r child none.way.known gave parent h.up (λ e. joined_apart (sym e))
        (still_nothing got parent h.up h.knows_up);
    inside = tree_page_inside h.up i (suc h.level) h.above;
  }

  pub can_lift : h.above.page.head.number ≡ i → length h.above.page.rows ≤ 1
      → CanLift (view p) i parent child
  can_lift number few = record {
    level = h.level;
    tree = way.tree;
    root = h.up;
    low = h.low;
    knows_tree = way.knows;
    knows_root = h.knows_up;
    knows_low = h.knows_low;
    above = h.above;
    number = number;
    below = h.below;
    only = points_only h.above.page.rows h.below.page.head.number h.points few;
    fits = (let fits = h.fits in omega (arith, fits));
  }

  module _ {q : TreePass} (made : LiftsRoot p i parent child q) where
    abbrev m : TreePass
    m = made.settled

    abbrev ids : List ℕ
    ids = frame_id (shape_of_pass p) parent ∷ frame_id (shape_of_pass p) child ∷ tree_id i ∷ []

    shape_is : shape_of_pass m ≡ shape_of_pass p
    shape_is = does_shape p m ids made.sinks.silently.added made.sinks.silently.does

    freed : DoesSilently m q (frame_id (shape_of_pass p) child ∷ [])
    freed = subst (λ (s : Shape). DoesSilently m q (frame_id s child ∷ [])) shape_is
        made.frees.silently

    all : DoesSilently p q ids
    all = silently_both p m q ids made.sinks.silently
        (silently_weaker m q (frame_id (shape_of_pass p) child ∷ []) ids
        (λ k apart. (apart.1.0, tt)) freed)

    shapes : shape_of_pass q ≡ shape_of_pass p
    shapes = does_shape p q ids all.added all.does

    knows_tree : KnowsTree (view q) i made.sinks.tree
    knows_tree = tree_still (view m) (view q) (frame_id (shape_of_pass p) child ∷ [])
        freed.does.rest i
        ((λ z. frame_no_tree (shape_of_pass p) child i way.index (sym z)), tt)
        made.sinks.tree made.sinks.knows_tree

    -- the root is still one of the trees
    lifted_inside : HasNoOutside made.sinks.root
    lifted_inside page has =
        let l = made.sinks.lifts in
        let was = made.sinks.was.above in
        ap (λ (x : PageRows). is_own x.head.number x.head.prev)
        (same_some page l.top (sym has ∙ l.has))
        ∙ (ap (λ (h : PageHead). is_own h.number h.prev) l.lifts.head
        ∙ (ap (λ (x : PageRows). is_own x.head.number x.head.prev)
        (same_some l.page was.page (sym l.had ∙ was.paged)) ∙ was.tree))

    pub back_lifted : ComesBack p parent i key q
    back_lifted = let had = way.count in let same = made.sinks.count in
        let less = made.frees.count in
        record {
          to = way_without way child ids all.added
              all.does.adds all.silent all.does.rest all.does.known
              (ap (λ (s : Shape). get_elem? (view q).held (frame_id s child)) (sym shapes)
              ∙ made.frees.lacks)
              (λ k not ne each. ((each.0, (ne, (not, tt))), (each.0, (ne, tt))))
              made.sinks.tree knows_tree (omega (arith, had, same, less));
          up = made.sinks.root;
          knows = frame_still (view m) (view q) (frame_id (shape_of_pass m) child ∷ [])
              made.frees.silently.does.adds.numbers made.frees.silently.does.rest parent
              (frames_apart (shape_of_pass m) parent child (λ z. joined_apart (sym z)), tt)
              made.sinks.root made.sinks.knows_root;
          inside = lifted_inside;
        }
