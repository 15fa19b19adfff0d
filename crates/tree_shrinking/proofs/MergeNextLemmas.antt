-- The page behind two children is held while they are merged.
use Rattle.std.proofs.Common.{◌≡◌, ◌≢◌, ℕ, [], ◌∷◌, sym, ap, ◌∙◌, arith, Option, Some, None, Result, Ok, Err, OnOk, OnErr}
use Rattle.latch_space.specs.Has.{IsKnown}
use Rattle.latch_space.specs.Passes.{view}
use Rattle.index_page.specs.declared.head.PageHead.{PageHead}
use Rattle.index_page.specs.Page.{PageRows}
use Rattle.tree_law.specs.Pages.{Page, is_own}
use Rattle.forest_law.specs.declared.objects.Frame.{Frame}
use Rattle.forest_law.specs.Numbers.{frame_id, frames_of}
use Rattle.forest_world.specs.Held.{TreePass, shape_of_pass, HasFrame}
use Rattle.tree_restructure.specs.Links.{HasAPage}
use Rattle.call_law.specs.Hands.{KnowsFrame, HoldsNoFrameBut, HoldsNoPart, HoldsNoTable}
use Rattle.call_law.proofs.TableLemmas.{part_no_frame, parts_lacked}
use Rattle.buffer_pool.specs.Calls.{DoesSilently, GetsNothing}
use Rattle.buffer_pool.specs.Forests.{IsFittedTree}
use Rattle.buffer_pool.specs.Frames.{GivesFrame}
use Rattle.buffer_pool.specs.Hands.{MayGiveBack}
use Rattle.buffer_pool.specs.NewPages.{HoldsOutsidePage}
use Rattle.buffer_pool.specs.Pages.{IsLive, HoldsOtherPages, PagesIn, HasTreePage}
use Rattle.buffer_pool.proofs.AddedLemmas.{frame_still, frame_before}
use Rattle.buffer_pool.proofs.CallLemmas.{frame_has, gave_frame}
use Rattle.tree_growth.proofs.KnownLemmas.{lacked_apart}
use Rattle.tree_smo.specs.declared.halves.SplitBlocks.{SplitBlocks}
use Rattle.tree_smo.proofs.LawfulLemmas.{known_page}
use Rattle.tree_smo.proofs.SilentLemmas.{does_shape, does_weaker, around_added, does_around, said_around}
use Rattle.tree_shrinking.specs.Merging.{CanMerge, MergesPair}
use Rattle.tree_shrinking.specs.MergePlans.{HoldsMerge, merge_ids, MakesMerge}
use Rattle.tree_shrinking.proofs.MergePlanLemmas.{can_still, behind, not_right, not_left, not_parent}
use Rattle.tree_shrinking.proofs.OtherLemmas.{held_knows, has_other, holds_others}
use Rattle.tree_shrinking.proofs.WayLemmas.{still_took}

-- the right page, as it is read in its frame
module _ (p : TreePass) (known : IsKnown p) {at : SplitBlocks} {i : ℕ}
    (can : CanMerge (view p) at.parent at.child at.right i) (f : Frame)
    (read : (x y : Frame) → HasFrame p at.right x y → f ≡ y) where
  paged : f.page ≡ Some can.is_right.page
  paged = ap (λ (x : Frame). x.page)
      (read can.upper can.upper (frame_has p known at.right can.upper can.knows_right))
      ∙ can.is_right.paged

  pub right_page : HasAPage f
  right_page = record { page = can.is_right.page; has = paged }

  pub next_read : (head : PageHead)
      → ((page : PageRows) → f.page ≡ Some page → head ≡ page.head)
      → can.is_right.page.head.next ≡ head.next
  next_read head is = ap (λ (z : PageHead). z.next) (sym (is can.is_right.page paged))

-- the page that was right is outside the trees and empty
outside_now : {p q : TreePass} {at : SplitBlocks} {i : ℕ} {next : Option ℕ}
    → MakesMerge p at i next q → HoldsOutsidePage (view q) at.right
outside_now made = let m = made.merges.merges.merge in record {
  frame = made.merges.now.right;
  knows = made.merges.knows.right;
  page = m.gone;
  paged = m.has_gone;
  own = ap (λ (x : PageRows). x.head.prev) m.merges.is_gone
      ∙ ap (λ (x : PageRows). Some x.head.number) (sym m.merges.is_gone);
  empty = ap (λ (x : PageRows). x.rows) m.merges.is_gone;
}

pub pair_last : {p q : TreePass} {at : SplitBlocks} {i : ℕ} → MakesMerge p at i None q
    → MergesPair p at.parent at.child at.right i q
pair_last made = record {
  silently = made.silently;
  was = made.merges.was.can;
  up = made.merges.now.up;
  whole = made.merges.now.left;
  gone = made.merges.now.right;
  knows_up = made.merges.knows.up;
  knows_whole = made.merges.knows.left;
  knows_gone = made.merges.knows.right;
  merges = made.merges.merges;
  outside = outside_now made;
  count = made.count;
}

module _ (p : TreePass) {at : SplitBlocks} {i n : ℕ}
    (can : CanMerge (view p) at.parent at.child at.right i)
    (next : can.is_right.page.head.next ≡ Some n) where
  -- the page behind is there, and no such page is in hand
  pub next_live : IsLive (view p) n
  next_live w law fits =
      let fitted : IsFittedTree (view p) =
      record { whole = w; is_lawful = law; fits = fits } in
      let b = behind fitted can n next in (b.after, b.at)

  pub next_other : IsFittedTree (view p)
      → (view p).terms.objects ≡ frame_id (shape_of_pass p) (frames_of (shape_of_pass p))
      → HoldsNoFrameBut (view p) (at.parent ∷ at.child ∷ at.right ∷ []) → HoldsOtherPages (view p) n
  next_other fitted objects only =
      let v = view p in
      holds_others v n (at.parent ∷ at.child ∷ at.right ∷ [])
      (held_knows p (at.parent ∷ at.child ∷ at.right ∷ []) objects only) (
        has_other v n at.parent can.up can.above.page can.knows_up can.above.paged
            (not_parent fitted can n next),
        (
          has_other v n at.child can.lower can.is_left.page can.knows_left can.is_left.paged
              (not_left fitted can n next),
          (
            has_other v n at.right can.upper can.is_right.page can.knows_right can.is_right.paged
                (not_right fitted can n next),
            tt,
          ),
        ),
      )

-- no partition is held where a page was taken, as none was
pub parts_took : {p : TreePass} {n b : ℕ} {q : TreePass} → PagesIn p n b q → HoldsNoTable (view p)
    → HoldsNoPart (view q)
parts_took {p} {n} {b} {q} took none = let does = took.silently.does in
    parts_lacked (view p) (view q)
    (does_shape p q (frame_id (shape_of_pass p) b ∷ []) took.silently.added does)
    (λ k part lacks. does.rest k (part_no_frame (shape_of_pass p) k b part, tt) ∙ lacks) none.parts

-- what is known once the page behind was taken, in the frame of the block b
pub record NextTaken (p : TreePass) (at : SplitBlocks) (i n b : ℕ) (q : TreePass) : Type 0 where
  pub can : CanMerge (view p) at.parent at.child at.right i
  pub next : can.is_right.page.head.next ≡ Some n
  pub took : PagesIn p n b q
  pub fitted : IsFittedTree (view q)

module _ {p : TreePass} {at : SplitBlocks} {i n b : ℕ} {q : TreePass}
    (c : NextTaken p at i n b q) where
  abbrev can : CanMerge (view p) at.parent at.child at.right i
  can = c.can

  abbrev took : PagesIn p n b q
  took = c.took

  abbrev silent : DoesSilently p q (frame_id (shape_of_pass p) b ∷ [])
  silent = took.silently

  -- the block of a frame that is known is another one
  other : (a : ℕ) (f : Frame) → KnowsFrame (view p) a f → b ≢ a
  other a f knows e = lacked_apart p a b f took.lacked knows (sym e)

  apart_parent : b ≢ at.parent
  apart_parent = other at.parent can.up can.knows_up

  apart_left : b ≢ at.child
  apart_left = other at.child can.lower can.knows_left

  apart_right : b ≢ at.right
  apart_right = other at.right can.upper can.knows_right

  before : (a : ℕ) (f : Frame) → b ≢ a → KnowsFrame (view q) a f → KnowsFrame (view p) a f
  before a f ne knows = frame_before (view p) (view q) (frame_id (shape_of_pass p) b ∷ [])
      silent.does.adds.numbers silent.does.rest a (λ z. ne (omega (arith, z)), tt) f knows

  -- the three pages are still held
  abbrev still_can : CanMerge (view q) at.parent at.child at.right i
  still_can = can_still can (still_took took at.parent can.up can.knows_up)
      (still_took took at.child can.lower can.knows_left)
      (still_took took at.right can.upper can.knows_right)

  -- the page behind is one of the trees, of the children's level
  abbrev tree_page : HasTreePage took.frame i can.level
  tree_page =
      let w = c.fitted.whole in let law = c.fitted.is_lawful in let fits = c.fitted.fits in
      let a = behind c.fitted still_can n c.next in
      let page = took.has.page in
      let same = known_page w law (view q) fits b took.frame page took.knows took.has.paged n
      a.after took.has.number a.at in record {
        page = page;
        paged = took.has.paged;
        tree = ap (λ m. is_own m page.head.prev) took.has.number
            ∙ (ap (λ (z : Page). is_own n z.prev) same ∙ a.tree);
        index = ap (λ (z : Page). z.index) same ∙ (a.index ∙ can.is_right.index);
        at_level = ap (λ (z : Page). z.level) same ∙ (a.level ∙ can.is_right.at_level);
      }

  -- so all is held that the merge changes
  pub merge_held : HoldsMerge (view q) at i (Some b)
  merge_held = record {
    can = still_can;
    behind = (took.frame, took.knows, tree_page, c.next ∙ ap Some (sym took.has.number));
  }

  module _ (r : TreePass) where
    -- the page behind is still held after the merge, however that ended
    pub next_held : {A E : Type 0} (made : Result A E)
        → OnOk made (MakesMerge q at i (Some b) r) → OnErr made (GetsNothing q r)
        → MayGiveBack r b
    next_held (Ok x) ok err = let has = ok.merges.behind in
        (has.0, frame_has r ok.silently.does.known b has.0 has.1, has.2)
    next_held (Err e) ok err = (
      took.frame,
      frame_has r err.silently.does.known b took.frame
          (frame_still (view q) (view r) [] err.silently.does.adds.numbers err.silently.does.rest b tt
          took.frame took.knows),
      took.inside,
    )

    module _ (s : TreePass) (gave : GivesFrame r b s) where
      -- nothing was done, and the page behind was given back
      pub nothing_around : GetsNothing q r → GetsNothing p s
      nothing_around same = let f = same.silently in record {
        silently = record {
          added = around_added p q r s b silent gave f.added;
          does = does_around p q r s b silent gave took.lacked (λ z. []) f.added
              (does_weaker q r [] (frame_id (shape_of_pass q) b ∷ []) (λ k a. tt) f.added f.does);
          silent = said_around p q r s b silent gave f.added ∙ f.silent;
        };
        count = (let a = took.count in let b = same.count in let d = gave.count in
            omega (arith, a, b, d));
      }

      -- the merge was made, and the page behind was given back
      pub pair_around : MakesMerge q at i (Some b) r
          → MergesPair p at.parent at.child at.right i s
      pair_around made =
          let back = gave_frame r s made.silently.does.known b gave in
          let can' = made.merges.was.can in
          let after : (a : ℕ) (f : Frame) → b ≢ a → KnowsFrame (view r) a f
          → KnowsFrame (view s) a f = λ a f differ knows. frame_still (view r) (view s)
          (frame_id (shape_of_pass r) b ∷ []) back.adds.numbers back.rest a
          (λ z. differ (omega (arith, z)), tt) f knows in
          let outside = outside_now made in
          record {
            silently = record {
              added = around_added p q r s b silent gave made.silently.added;
              does = does_around p q r s b silent gave took.lacked
                  (λ shape. frame_id shape at.parent ∷ frame_id shape at.child
                  ∷ frame_id shape at.right ∷ []) made.silently.added
                  (does_weaker q r (merge_ids (shape_of_pass q) at (Some b))
                  (frame_id (shape_of_pass q) b ∷ frame_id (shape_of_pass q) at.parent
                  ∷ frame_id (shape_of_pass q) at.child ∷ frame_id (shape_of_pass q) at.right
                  ∷ [])
                  (λ k a. (a.1.0, (a.1.1.0, (a.1.1.1.0, (a.0, tt)))))
                  made.silently.added made.silently.does);
              silent = said_around p q r s b silent gave made.silently.added
                  ∙ made.silently.silent;
            };
            was = can_still can' (before at.parent can'.up apart_parent can'.knows_up)
                (before at.child can'.lower apart_left can'.knows_left)
                (before at.right can'.upper apart_right can'.knows_right);
            up = made.merges.now.up;
            whole = made.merges.now.left;
            gone = made.merges.now.right;
            knows_up = after at.parent made.merges.now.up apart_parent made.merges.knows.up;
            knows_whole = after at.child made.merges.now.left apart_left made.merges.knows.left;
            knows_gone = after at.right made.merges.now.right apart_right
                made.merges.knows.right;
            merges = made.merges.merges;
            outside = record {
              frame = outside.frame;
              knows = after at.right outside.frame apart_right outside.knows;
              page = outside.page;
              paged = outside.paged;
              own = outside.own;
              empty = outside.empty;
            };
            count = (let a = took.count in let b = made.count in let d = gave.count in
                omega (arith, a, b, d));
          }
