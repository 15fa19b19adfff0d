-- Two pages that follow one another under a page in hand, as a lawful state has them.
use Rattle.std.proofs.Common.{◌≡◌, ◌≢◌, ℕ, suc, List, [], ◌∷◌, ◌++◌, sym, ap, ◌∙◌, arith, append_assoc, Some}
use Rattle.index_page.specs.Page.{PageRows}
use Rattle.index_page.specs.Rows.{Row, Child}
use Rattle.tree_law.specs.Pages.{Page, is_own, from_place, pointers_of}
use Rattle.tree_law.specs.TreeShape.{first_from}
use Rattle.tree_law.proofs.PageRowLemmas.{own_of}
use Rattle.tree_law.proofs.SiblingLemmas.{siblings_meet}
use Rattle.forest_law.specs.declared.objects.Frame.{Frame}
use Rattle.forest_law.specs.Law.{IsLawful}
use Rattle.forest_law.specs.State.{ForestState, page_within, pages_of, heights_of, maps_of, fields_for}
use Rattle.tree_facts.specs.InnerPages.{HasPageWithin}
use Rattle.tree_facts.specs.TreeFrames.{high_of}
use Rattle.tree_facts.proofs.ChildLemmas.{pointers_bound_children}
use Rattle.tree_merging.specs.Siblings.{AreSiblings}
use Rattle.tree_merging.proofs.SiblingLemmas.{siblings_fit}
use Rattle.call_law.specs.Hands.{KnowsFrame}
use Rattle.call_law.specs.Spoken.{View}
use Rattle.buffer_pool.specs.Forests.{FitsTrees, IsFittedTree}
use Rattle.buffer_pool.specs.Pages.{HasNumber, HasTreePage}
use Rattle.tree_smo.proofs.LawfulLemmas.{one_page, levels_apart, known_tells, known_page, tree_frame}
use Rattle.tree_shrinking.specs.declared.pairs.Pair.{Pair}
use Rattle.tree_shrinking.specs.declared.pairs.Siblings.{Siblings}
use Rattle.tree_shrinking.specs.Pairs.{HoldsAbovePair, HoldsPair}

module _ {v : View} (fitted : IsFittedTree v) {parent : ℕ} {asked : Siblings} {i : ℕ}
    (h : HoldsAbovePair v parent asked i) where
  abbrev w : ForestState
  w = fitted.whole

  abbrev law : IsLawful w
  law = fitted.is_lawful

  abbrev fits : FitsTrees w v
  fits = fitted.fits

  -- a page that the page above points to
  module _ (n : ℕ) (fore : List Row) (row : Row) (aft : List Row)
      (was : h.above.page.rows ≡ fore ++ row ∷ aft) (body : row.body ≡ Child n) where
    pub child_has : HasPageWithin w h.above.page.head.index h.level (from_place row.key)
        (first_from (pointers_of aft) (high_of h.up)) n
    child_has = pointers_bound_children w law parent h.up h.above.page
        (tree_frame w law v fits parent i (suc h.level) h.up h.knows h.above) h.level
        h.above.at_level fore row aft was n body

    -- is another than the one above, on another level
    child_apart : h.above.page.head.number ≢ n
    child_apart z =
        let has = child_has in
        let same = ap (λ (q : Page). q.level) (known_page w law v fits parent h.up h.above.page
        h.knows h.above.paged n has.page z has.at) in
        let low = has.at_level in
        let high = h.above.at_level in
        omega (arith, same, low, high)

    -- and what a frame with its number has is that page
    abbrev pub child_page : (b : ℕ) (f : Frame) → KnowsFrame v b f → HasNumber f n
        → HasTreePage f i h.level
    child_page b f knows it =
        let has = child_has in
        let same = known_page w law v fits b f it.page knows it.paged n has.page it.number has.at in
        record {
          page = it.page;
          paged = it.paged;
          tree = ap (λ m. is_own m it.page.head.prev) it.number
              ∙ (ap (λ (q : Page). is_own n q.prev) same ∙ has.tree);
          index = ap (λ (q : Page). q.index) same ∙ (has.index ∙ h.above.index);
          at_level = ap (λ (q : Page). q.level) same ∙ has.at_level;
        }

  abbrev pub front : List Row
  front = h.points.fore ++ h.points.this ∷ []

  pub second : h.above.page.rows ≡ front ++ h.points.pointer ∷ h.points.aft
  second = h.points.was ∙ sym (append_assoc h.points.fore (h.points.this ∷ [])
      (h.points.pointer ∷ h.points.aft))

  pub left_live : (page : Page) × (pages_of w.shape w.objects asked.left ≡ Some page)
  left_live = let has = child_has asked.left h.points.fore h.points.this
      (h.points.pointer ∷ h.points.aft) h.points.was h.points.this_is in (has.page, has.at)

  pub right_live : (page : Page) × (pages_of w.shape w.objects asked.right ≡ Some page)
  right_live = let has = child_has asked.right front h.points.pointer h.points.aft second
      h.points.pointer_is in (has.page, has.at)

  pub left_other : h.above.page.head.number ≢ asked.left
  left_other = child_apart asked.left h.points.fore h.points.this
      (h.points.pointer ∷ h.points.aft) h.points.was h.points.this_is

  pub right_other : h.above.page.head.number ≢ asked.right
  right_other = child_apart asked.right front h.points.pointer h.points.aft second
      h.points.pointer_is

  abbrev pub left_page : (b : ℕ) (f : Frame) → KnowsFrame v b f → HasNumber f asked.left
      → HasTreePage f i h.level
  left_page = child_page asked.left h.points.fore h.points.this
      (h.points.pointer ∷ h.points.aft) h.points.was h.points.this_is

  abbrev pub right_page : (b : ℕ) (f : Frame) → KnowsFrame v b f → HasNumber f asked.right
      → HasTreePage f i h.level
  right_page = child_page asked.right front h.points.pointer h.points.aft second
      h.points.pointer_is

  -- the two are different pages, since the second one names the first one as that before it
  pub pair_differ : asked.left ≢ asked.right
  pair_differ e =
      let l = child_has asked.left h.points.fore h.points.this
      (h.points.pointer ∷ h.points.aft) h.points.was h.points.this_is in
      let r = child_has asked.right front h.points.pointer h.points.aft second
      h.points.pointer_is in
      let tells = known_tells w law v fits parent h.up h.above.page h.knows h.above.paged in
      let meet = siblings_meet w.shape.indexes (fields_for w.shape) (heights_of w.objects)
      (maps_of w.lists) (pages_of w.shape w.objects) law.objects.pages h.above.page.head.number
      asked.left asked.right (page_within h.above.page h.up.low h.up.high) l.page r.page
      h.points.fore h.points.this h.points.pointer h.points.aft
      (tells.is
      ∙ ap (λ xs. Some (let top = page_within h.above.page h.up.low h.up.high in
      record top { rows = xs })) h.points.was) h.above.tree h.points.this_is h.points.pointer_is
      l.at r.at in
      absurd (cc (r.tree, own_of asked.right r.page.prev (meet.1.prev ∙ ap Some e)))

-- a pair in hand
module _ {v : View} (fitted : IsFittedTree v) {pair : Pair} {i : ℕ} (h : HoldsPair v pair i) where
  pub siblings_are : AreSiblings h.lower h.upper h.above.page h.is_left.page h.is_right.page
      h.points.pointer.key
  siblings_are =
      let w = fitted.whole in let law = fitted.is_lawful in let fits = fitted.fits in
      siblings_fit w law pair.parent h.up h.above.page
      (tree_frame w law v fits pair.parent i (suc h.level) h.up h.knows_up h.above) h.points.fore
      h.points.this h.points.pointer h.points.aft h.points.was h.lower h.upper h.is_left.page
      h.is_right.page pair.left
      (tree_frame w law v fits pair.left i h.level h.lower h.knows_left h.is_left)
      h.points.this_is pair.right
      (tree_frame w law v fits pair.right i h.level h.upper h.knows_right h.is_right)
      h.points.pointer_is

  -- the three blocks differ
  pub left_parent : pair.left ≢ pair.parent
  left_parent = levels_apart v pair.left pair.parent i i h.level (suc h.level) h.lower h.up
      h.knows_left h.knows_up h.is_left h.above (λ e. omega (arith, e))

  pub right_parent : pair.right ≢ pair.parent
  right_parent = levels_apart v pair.right pair.parent i i h.level (suc h.level) h.upper h.up
      h.knows_right h.knows_up h.is_right h.above (λ e. omega (arith, e))

  pub both_apart : pair.right ≢ pair.left
  both_apart e =
      let same : h.is_right.page ≡ h.is_left.page =
      one_page v pair.right pair.left h.upper h.lower h.is_right.page h.is_left.page h.knows_right
      h.knows_left e h.is_right.paged h.is_left.paged in
      absurd (cc (
        h.is_right.tree,
        own_of h.is_right.page.head.number h.is_right.page.head.prev
            (siblings_are.follows.prev ∙ ap (λ (r : PageRows). Some r.head.number) (sym same)),
      ))
