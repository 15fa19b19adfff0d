-- A merge can be made with the frames that are known.
use Rattle.std.proofs.Common.{◌≡◌, ◌≢◌, ◌<◌, ◌^◌, ℕ, false, sym, ap, refl, arith, Option, Some}
use Rattle.latch_space.specs.Has.{IsKnown}
use Rattle.latch_space.specs.Passes.{view}
use Rattle.index_page.specs.declared.TheConstants.{NO_PAGE}
use Rattle.index_page.specs.Page.{PageRows}
use Rattle.tree_law.specs.Pages.{Page}
use Rattle.forest_law.specs.declared.objects.Frame.{Frame}
use Rattle.forest_law.specs.Law.{IsLawful}
use Rattle.forest_law.specs.State.{ForestState}
use Rattle.forest_world.specs.Held.{TreePass, shape_of_pass}
use Rattle.tree_facts.specs.Neighbours.{HasNextPage}
use Rattle.tree_facts.proofs.NeighbourLemmas.{next_pages_fit}
use Rattle.tree_merging.specs.FrameMerges.{SuitsMerge}
use Rattle.tree_merging.specs.Siblings.{AreSiblings}
use Rattle.call_law.specs.Hands.{KnowsFrame, HoldsNoOutside}
use Rattle.call_law.specs.Spoken.{View}
use Rattle.buffer_pool.specs.Forests.{FitsTrees, IsFittedTree}
use Rattle.buffer_pool.specs.Pages.{HasTreePage}
use Rattle.tree_smo.specs.declared.halves.SplitBlocks.{SplitBlocks}
use Rattle.tree_smo.specs.Halves.{AreThree}
use Rattle.tree_smo.specs.PartHeld.{LawsOfMoves}
use Rattle.tree_smo.proofs.LawfulLemmas.{one_page, known_page, tree_frame}
use Rattle.tree_shrinking.specs.declared.pairs.Pair.{Pair}
use Rattle.tree_shrinking.specs.Hashing.{HoldsTheirPart}
use Rattle.tree_shrinking.specs.Merging.{CanMerge}
use Rattle.tree_shrinking.specs.MergePlans.{HoldsMerge}
use Rattle.tree_shrinking.specs.Pairs.{HoldsPair}
use Rattle.tree_shrinking.proofs.PairLemmas.{siblings_are, left_parent, right_parent, both_apart}

-- two children in hand, and their parent
abbrev pair_of : (parent left right : ℕ) → Pair
pair_of parent left right =
    record { parent = parent; left = left; right = right; right_asks = false }

abbrev pair_held : {v : View} {parent left right i : ℕ} → CanMerge v parent left right i
    → HoldsPair v (pair_of parent left right) i
pair_held can = record {
  level = can.level;
  up = can.up;
  lower = can.lower;
  upper = can.upper;
  knows_up = can.knows_up;
  knows_left = can.knows_left;
  knows_right = can.knows_right;
  above = can.above;
  is_left = can.is_left;
  is_right = can.is_right;
  points = can.points;
}

-- they can be merged in any hand that knows all three frames so
abbrev pub can_still : {v u : View} {parent left right i : ℕ}
    → (can : CanMerge v parent left right i) → KnowsFrame u parent can.up
    → KnowsFrame u left can.lower → KnowsFrame u right can.upper → CanMerge u parent left right i
can_still can up lower upper = record {
  level = can.level;
  up = can.up;
  lower = can.lower;
  upper = can.upper;
  knows_up = up;
  knows_left = lower;
  knows_right = upper;
  above = can.above;
  is_left = can.is_left;
  is_right = can.is_right;
  points = can.points;
  fits = can.fits;
}

-- what a lawful state tells of them
module _ {v : View} (fitted : IsFittedTree v) {parent left right i : ℕ}
    (can : CanMerge v parent left right i) where
  abbrev w : ForestState
  w = fitted.whole

  abbrev law : IsLawful w
  law = fitted.is_lawful

  abbrev fits : FitsTrees w v
  fits = fitted.fits

  pub siblings : AreSiblings can.lower can.upper can.above.page can.is_left.page can.is_right.page
      can.points.pointer.key
  siblings = siblings_are fitted (pair_held can)

  -- the three blocks differ
  pub left_apart : left ≢ parent
  left_apart = left_parent fitted (pair_held can)

  pub right_apart : right ≢ parent
  right_apart = right_parent fitted (pair_held can)

  pub pair_apart : right ≢ left
  pair_apart = both_apart fitted (pair_held can)

  -- the frames can be merged
  pub suits_merge : can.is_right.page.head.number ≢ NO_PAGE
      → SuitsMerge can.lower can.upper can.up
  suits_merge some = record {
    at = can.points.pointer.key;
    page = can.is_left.page;
    other = can.is_right.page;
    has = can.is_left.paged;
    has_other = can.is_right.paged;
    follows = siblings.follows;
    fits = (let fits = can.fits in omega (arith, fits));
    number = some;
    up = record {
      page = can.above.page;
      has = can.above.paged;
      fore = can.points.fore;
      this = can.points.this;
      pointer = can.points.pointer;
      aft = can.points.aft;
      was = can.points.was;
      this_is = can.points.this_is;
      pointer_is = can.points.pointer_is;
      key_is = refl;
    };
  }

  -- the page behind is another one than the three
  module _ (n : ℕ) (next : can.is_right.page.head.next ≡ Some n) where
    pub behind : HasNextPage w can.upper can.is_right.page n
    behind = next_pages_fit w law right can.upper can.is_right.page
        (tree_frame w law v fits right i can.level can.upper can.knows_right can.is_right) n next

    pub not_right : can.is_right.page.head.number ≢ n
    not_right z = behind.other (sym z)

    pub not_left : can.is_left.page.head.number ≢ n
    not_left z = siblings.around n next (sym z)

    pub not_parent : can.above.page.head.number ≢ n
    not_parent z =
        let same = ap (λ (q : Page). q.level) (known_page w law v fits parent can.up can.above.page
        can.knows_up can.above.paged n behind.after z behind.at) in
        let level = behind.level in
        let low = can.is_right.at_level in
        let high = can.above.at_level in
        omega (arith, same, level, low, high)

  -- so it is in another block
  module _ (b : ℕ) (f : Frame) (knows : KnowsFrame v b f) (t : HasTreePage f i can.level)
      (next : can.is_right.page.head.next ≡ Some t.page.head.number) where
    apart_of : (c : ℕ) (g : Frame) (page : PageRows) → KnowsFrame v c g → g.page ≡ Some page
        → page.head.number ≢ t.page.head.number → b ≢ c
    apart_of c g page that paged ne e = ne (ap (λ (x : PageRows). x.head.number)
        (one_page v c b g f page t.page that knows (sym e) paged t.paged))

    pub next_right : b ≢ right
    next_right = apart_of right can.upper can.is_right.page can.knows_right can.is_right.paged
        (not_right t.page.head.number next)

    pub next_left : b ≢ left
    next_left = apart_of left can.lower can.is_left.page can.knows_left can.is_left.paged
        (not_left t.page.head.number next)

    pub next_parent : b ≢ parent
    next_parent = apart_of parent can.up can.above.page can.knows_up can.above.paged
        (not_parent t.page.head.number next)

-- what is known when a merge is made in hand
pub record MergeCall (p : TreePass) (at : SplitBlocks) (i : ℕ) (next : Option ℕ) : Type 0 where
  pub known : IsKnown p
  pub fitted : IsFittedTree (view p)
  pub held : HoldsMerge (view p) at i next
  pub inside : HoldsNoOutside (view p)
  pub hash : HoldsTheirPart (view p) at.right at.child
  pub few : (shape_of_pass p).pages < 2 ^ 32
  pub laws : LawsOfMoves

pub three : {p : TreePass} {at : SplitBlocks} {i : ℕ} {next : Option ℕ} → MergeCall p at i next
    → AreThree at
three c = let can = c.held.can in record {
  child = left_apart c.fitted can;
  right = right_apart c.fitted can;
  halves = pair_apart c.fitted can;
}
