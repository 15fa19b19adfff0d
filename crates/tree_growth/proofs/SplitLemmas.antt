-- A child that was split under its parent.
use Rattle.std.proofs.Common.{◌≡◌, ◌≢◌, ℕ, [], ◌∷◌, ne_eqb, sym, ap, subst, ◌∙◌, refl, arith}
use Rattle.list_facts.proofs.Places.{same_some}
use Rattle.key_tuple.specs.declared.mode.Mode.TheVariants as mode
use Rattle.key_tuple.specs.Order.{FieldList}
use Rattle.latch_space.specs.Passes.{view}
use Rattle.index_page.specs.declared.head.PageHead.{PageHead}
use Rattle.index_page.specs.Page.{PageRows}
use Rattle.tree_law.specs.Pages.{low_place, high_place, is_own, IsOrderly}
use Rattle.index_law.specs.Shape.{Shape}
use Rattle.forest_law.specs.declared.objects.Frame.{Frame}
use Rattle.forest_law.specs.FramePages.{TellsPage}
use Rattle.forest_law.specs.Numbers.{tree_id, frame_id}
use Rattle.forest_law.specs.Outside.{HasNoOutside}
use Rattle.forest_law.specs.State.{bound, page_within, fields_for}
use Rattle.forest_world.specs.Held.{TreePass, shape_of_pass}
use Rattle.buffer_pool.specs.Forests.{IsFittedTree}
use Rattle.buffer_pool.specs.Frames.{GivesFrame}
use Rattle.buffer_pool.specs.Hands.{MayGiveBack}
use Rattle.buffer_pool.proofs.CallLemmas.{frame_has}
use Rattle.buffer_pool.specs.Pages.{HasTreePage}
use Rattle.buffer_pool.proofs.AddedLemmas.{frame_no_tree, tree_still}
use Rattle.tree_descent.specs.Leaves.{HasCutWithin, cut_in}
use Rattle.tree_smo.specs.Splitting.{SplitsChild}
use Rattle.tree_growth.specs.declared.looking.PageInHand.{PageInHand}
use Rattle.tree_growth.specs.Pages.{IsOrdered, HasRoomForAny, HoldsChild, HoldsBothHalves}
use Rattle.tree_growth.specs.Ways.{IsGoingDown, GoesOn, GrowsChild, KeepsHalf}
use Rattle.tree_growth.proofs.AddLemmas.{same_shape, goes_silently, goes_both, reaches_after}
use Rattle.tree_growth.proofs.HandLemmas.{way_more, way_less, goes_gave, still_gave}
use Rattle.tree_growth.proofs.RoomLemmas.{halves_roomy}
use Rattle.tree_growth.proofs.KnownLemmas.{level_one, lacked_apart, levels_apart, known_tells, numbers_apart}
use Rattle.tree_descent.proofs.InnerLemmas.{one_known}

module _ (p q : TreePass) (i : ℕ) (key : FieldList) (parent child right : ℕ)
    (way : IsGoingDown p i key (parent ∷ child ∷ [])) (splits : SplitsChild p parent child i right q) where
  -- three frames are in hand
  pub way_split : IsGoingDown q i key (parent ∷ child ∷ right ∷ [])
  way_split =
      let does = splits.silently.does in let s = shape_of_pass p in
      let had = way.count in let more = splits.count in
      let no = λ (b : ℕ) (e : tree_id i ≡ frame_id s b). frame_no_tree s b i way.index (sym e) in
      way_more p q i key (parent ∷ child ∷ []) (parent ∷ child ∷ right ∷ []) way
      (frame_id s parent ∷ frame_id s child ∷ frame_id s right ∷ []) splits.silently.added does.adds
      does.rest does.known
      (λ k not each. ((each.0, (each.1.0, (each.1.1.0, tt))), (each.0, (each.1.0, tt)))) way.tree
      (tree_still (view p) (view q)
      (frame_id s parent ∷ frame_id s child ∷ frame_id s right ∷ []) does.rest i
      (no parent, (no child, (no right, tt))) way.tree way.knows) (omega (arith, had, more))

  -- the parent is still a page of the trees, and may be given back
  up_inside : HasNoOutside splits.up
  up_inside page has =
      let p = splits.pointer in
      let same : page ≡ p.new = same_some page p.new
      (sym has ∙ ap (λ (f : Frame). f.page) p.kept) in
      let was = same_some p.page splits.was.above.page (sym p.had ∙ splits.was.above.paged) in
      ap (λ (r : PageRows). is_own r.head.number r.head.prev) same
      ∙ (ap (λ (h : PageHead). is_own h.number h.prev) p.head
      ∙ (ap (λ (r : PageRows). is_own r.head.number r.head.prev) was ∙ splits.was.above.tree))

  pub may_give_up : MayGiveBack q parent
  may_give_up = (
    splits.up,
    frame_has q splits.silently.does.known parent splits.up splits.knows_up,
    up_inside,
  )

  module _ (held : HoldsChild (view p) parent child i key) where
    -- the frame of the child, as it was
    same_low : held.low ≡ splits.was.low
    same_low = one_known (view p) child held.low splits.was.low held.knows_low splits.was.knows_low

    pub same_level : splits.was.level ≡ held.level
    same_level = level_one i i splits.was.level held.level splits.was.low splits.was.below
        (subst (λ f. HasTreePage f i held.level) same_low held.below.is)

    pub child_apart : child ≢ parent
    child_apart = levels_apart (view p) parent child i held.level held.up held.low held.knows_up
        held.knows_low held.above held.below.is

    pub right_apart : parent ≢ right
    right_apart = lacked_apart p parent right held.up splits.lacked held.knows_up

    pub halves_apart : child ≢ right
    halves_apart = lacked_apart p child right held.low splits.lacked held.knows_low

    -- the page that was cut
    same_page : splits.cuts.page ≡ splits.was.below.page
    same_page = same_some splits.cuts.page splits.was.below.page
        (sym splits.cuts.had ∙ splits.was.below.paged)

    left_page : HasTreePage splits.left i splits.was.level
    left_page = let head = splits.cuts.cuts.head in record {
      page = splits.cuts.stays;
      paged = splits.cuts.has;
      tree = ap (λ (h : PageHead). is_own h.number h.prev) head
          ∙ (ap (λ (r : PageRows). is_own r.head.number r.head.prev) same_page
          ∙ splits.was.below.tree);
      index = ap (λ (h : PageHead). h.index) head
          ∙ (ap (λ (r : PageRows). r.head.index) same_page ∙ splits.was.below.index);
      at_level = ap (λ (h : PageHead). h.level) head
          ∙ (ap (λ (r : PageRows). r.head.level) same_page ∙ splits.was.below.at_level);
    }

    module _ (fitted : IsFittedTree (view q)) where
      left_tells : TellsPage fitted.whole splits.left splits.cuts.stays
      left_tells = known_tells (view q) fitted child splits.left splits.cuts.stays splits.knows_left
          splits.cuts.has

      right_tells : TellsPage fitted.whole splits.new splits.cuts.new
      right_tells = known_tells (view q) fitted right splits.new splits.cuts.new splits.knows_new
          splits.cuts.has_new

      -- the halves have two numbers
      two_numbers : splits.cuts.page.head.number ≢ splits.cuts.fresh.head.number
      two_numbers e =
          numbers_apart (view q) fitted child right splits.left splits.new splits.cuts.stays
          splits.cuts.new splits.knows_left splits.knows_new splits.cuts.has splits.cuts.has_new
          halves_apart (ap (λ (h : PageHead). h.number) splits.cuts.cuts.head
          ∙ (e ∙ sym (ap (λ (h : PageHead). h.number) splits.cuts.cuts.new_head)))

      right_page : HasTreePage splits.new i splits.was.level
      right_page = let head = splits.cuts.cuts.new_head in let blank = splits.cuts.blank in record {
        page = splits.cuts.new;
        paged = splits.cuts.has_new;
        tree = ap (λ (h : PageHead). is_own h.number h.prev) head
            ∙ ne_eqb splits.cuts.page.head.number splits.cuts.fresh.head.number two_numbers;
        index = ap (λ (h : PageHead). h.index) head
            ∙ (blank.index
            ∙ (ap (λ (r : PageRows). r.head.index) same_page ∙ splits.was.below.index));
        at_level = ap (λ (h : PageHead). h.level) head
            ∙ (blank.level
            ∙ (ap (λ (r : PageRows). r.head.level) same_page ∙ splits.was.below.at_level));
      }

      module _ (r : TreePass) (gave : GivesFrame q parent r) where
        -- the two halves are in hand once the parent was given back
        pub goes_split : GoesOn p r
        goes_split = goes_both p q r
            (goes_silently p q (frame_id (shape_of_pass p) parent
            ∷ frame_id (shape_of_pass p) child ∷ frame_id (shape_of_pass p) right ∷ [])
            splits.silently) (goes_gave q r parent splits.silently.does.known gave)

        pub way_halves : IsGoingDown r i key (child ∷ right ∷ [])
        way_halves = way_less q r i key (parent ∷ child ∷ right ∷ []) (child ∷ right ∷ []) way_split
            parent gave (λ k apart each. (apart, each)) refl

        same_as_p : shape_of_pass r ≡ shape_of_pass p
        same_as_p = same_shape p r goes_split.added goes_split.adds

        same_as_w : fitted.whole.shape ≡ shape_of_pass r
        same_as_w = let back = goes_gave q r parent splits.silently.does.known gave in
            fitted.fits.shape ∙ sym (same_shape q r back.added back.adds)

        -- the child's bounds had the key
        had : HasCutWithin splits.was.low (cut_in (shape_of_pass r) i mode.Ge key)
        had = subst (λ f. HasCutWithin f (cut_in (shape_of_pass r) i mode.Ge key)) same_low
            (subst (λ (s : Shape). HasCutWithin held.low (cut_in s i mode.Ge key)) (sym same_as_p)
            held.below.within)

        pub halves_held : HoldsBothHalves (view r) child right i key
        unfolding left_page right_page
        halves_held = record {
          level = splits.was.level;
          apart = halves_apart;
          lower = splits.left;
          upper = splits.new;
          knows_lower = still_gave q r parent splits.silently.does.known gave child splits.left
              child_apart splits.knows_left;
          knows_upper = still_gave q r parent splits.silently.does.known gave right splits.new
              (λ e. right_apart (sym e)) splits.knows_new;
          is_lower = left_page;
          is_upper = right_page;
          order_lower = subst (λ (s : Shape). IsOrderly (fields_for s)
              (page_within splits.cuts.stays splits.left.low splits.left.high)) same_as_w
              left_tells.order;
          order_upper = subst (λ (s : Shape). IsOrderly (fields_for s)
              (page_within splits.cuts.new splits.new.low splits.new.high)) same_as_w
              right_tells.order;
          begins = ap (λ (f : Frame). cut_in (shape_of_pass r) i mode.Ge key (low_place (bound f.low)))
              splits.cuts.left ∙ had.low;
          ends = ap (λ k. cut_in (shape_of_pass r) i mode.Ge key (high_place (bound k)))
              splits.cuts.reaches ∙ had.high;
          at = splits.at;
          to = splits.cuts.ends;
          from = splits.cuts.begins;
        }

        pub its_halves_level : halves_held.level ≡ held.level
        unfolding left_page right_page halves_held
        its_halves_level = same_level

        -- the halves have room for any row
        pub halves_have_room : IsOrdered (view p) child
            → HasRoomForAny halves_held.is_lower.page × HasRoomForAny halves_held.is_upper.page
        unfolding left_page right_page halves_held
        halves_have_room ordered = halves_roomy splits.cuts.page
            (ordered splits.was.low splits.cuts.page splits.was.knows_low splits.cuts.had)
            splits.cuts.stays splits.cuts.fresh splits.cuts.new splits.at splits.cuts.cuts

-- the half that has the key is kept
pub grows_halved : (p q r s : TreePass) (i : ℕ) (key : FieldList) (need parent child right : ℕ)
    (way : IsGoingDown p i key (parent ∷ child ∷ [])) (splits : SplitsChild p parent child i right q)
    (held : HoldsChild (view p) parent child i key) (fitted : IsFittedTree (view q))
    (gave : GivesFrame q parent r) → IsOrdered (view p) child → (at : PageInHand)
    → KeepsHalf r child right i key need at s → GrowsChild p parent child i key need at s
grows_halved p q r s i key need parent child right way splits held fitted gave ordered at kept =
    record {
      reaches = reaches_after p r s i key need at
          (goes_split p q i key parent child right way splits held fitted r gave) kept.reaches;
      level = λ it. kept.level
          (halves_held p q i key parent child right way splits it fitted r gave)
          ∙ its_halves_level p q i key parent child right way splits it fitted r gave;
      fits = let any =
          halves_have_room p q i key parent child right way splits held fitted r gave ordered in
          kept.room (halves_held p q i key parent child right way splits held fitted r gave) any.0
          any.1;
    }
