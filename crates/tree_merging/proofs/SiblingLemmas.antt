-- Pages that follow one another under one parent.
use Rattle.std.proofs.Common.{◌≡◌, ◌≢◌, ℕ, suc, true, Some, List, [], ◌∷◌, ◌++◌, length, refl, sym, ap, subst, ◌∙◌, append_assoc}
use Rattle.std.specs.List.{AllByRecursion}
use Rattle.key_tuple.specs.KeyPlace.{At, before}
use Rattle.key_tuple.proofs.PlaceLemmas.{before-itself, before-trans}
use Rattle.list_facts.proofs.Each.{each_right}
use Rattle.index_page.specs.Page.{PageRows}
use Rattle.index_page.specs.Rows.{Row, Child}
use Rattle.tree_law.specs.TreeShape.{first_from}
use Rattle.tree_law.specs.Pages.{high_place, low_place, from_place, pointers_of}
use Rattle.tree_law.specs.ShapeLaws.{MeetAt}
use Rattle.tree_law.proofs.PageRowLemmas.{pointer_is}
use Rattle.tree_law.proofs.SiblingLemmas.{siblings_meet}
use Rattle.forest_law.specs.declared.objects.Frame.{Frame}
use Rattle.forest_law.specs.State.{ForestState, page_within, pages_of, heights_of, maps_of, fields_for}
use Rattle.forest_law.specs.FramePages.{TellsPage}
use Rattle.forest_law.specs.Law.{IsLawful}
use Rattle.tree_facts.specs.TreeFrames.{IsTreeFrame, low_of, high_of}
use Rattle.tree_facts.specs.InnerPages.{HasPageWithin}
use Rattle.tree_facts.proofs.ChildLemmas.{pointers_bound_children}
use Rattle.tree_facts.proofs.FrameLemmas.{tells_page, known_page}
use Rattle.tree_facts.proofs.NeighbourLemmas.{next_pages_fit}
use Rattle.tree_merging.specs.Siblings.{AreSiblings, SiblingsFit}
use Rattle.tree_merging.proofs.WithinLemmas.{below_high, from_low}

module _ (w : ForestState) (law : IsLawful w) (b : ℕ) (f : Frame) (up : PageRows)
    (is : IsTreeFrame w b f up) (fore : List Row) (x y : Row) (aft : List Row)
    (parts : up.rows ≡ fore ++ x ∷ y ∷ aft) (l r : Frame) (page other : PageRows)
    (c : ℕ) (is_left : IsTreeFrame w c l page) (to_left : x.body ≡ Child page.head.number)
    (d : ℕ) (is_right : IsTreeFrame w d r other) (to_right : y.body ≡ Child other.head.number) where
  tells : TellsPage w f up
  tells = tells_page w law b f up is

  tells_left : TellsPage w l page
  tells_left = tells_page w law c l page is_left

  tells_right : TellsPage w r other
  tells_right = tells_page w law d r other is_right

  meet : (up.head.level ≡ suc page.head.level)
      × MeetAt page.head.number other.head.number (page_within page l.low l.high)
      (page_within other r.low r.high) y.key
  meet = siblings_meet w.shape.indexes (fields_for w.shape) (heights_of w.objects)
      (maps_of w.lists) (pages_of w.shape w.objects) law.objects.pages up.head.number
      page.head.number other.head.number (page_within up f.low f.high)
      (page_within page l.low l.high) (page_within other r.low r.high) fore x y aft
      (tells.is
      ∙ ap (λ xs. Some (let top = page_within up f.low f.high in record top { rows = xs })) parts)
      is.tree to_left to_right tells_left.is tells_right.is

  ends : high_of l ≡ At y.key
  ends = ap high_place meet.1.high

  begins : low_of r ≡ At y.key
  begins = ap low_place meet.1.low

  -- what the parent's pointers say of the left page
  known_left : (page.head.index ≡ up.head.index) × (page.head.level ≡ page.head.level)
      × (low_of l ≡ from_place x.key)
      × (high_of l ≡ first_from (pointers_of (y ∷ aft)) (high_of f))
  known_left = known_page w law page.head.number up.head.index page.head.level (from_place x.key)
      (first_from (pointers_of (y ∷ aft)) (high_of f))
      (pointers_bound_children w law b f up is page.head.level meet.0 fore x (y ∷ aft) parts
      page.head.number to_left) c l page is_left refl

  place : high_of l ≡ from_place y.key
  place = known_left.3 ∙ ap (λ ps. first_from ps (high_of f))
      (pointer_is y other.head.number (from_place y.key) aft (to_right, refl))

  left_bounds : before (low_of l) (high_of l) ≡ true
  left_bounds = (tells_left.sound is_left.tree).bounds

  right_bounds : before (low_of r) (high_of r) ≡ true
  right_bounds = (tells_right.sound is_right.tree).bounds

  long : length y.key ≡ page.head.fields
  long = (each_right (λ (z : Row). length z.key ≡ up.head.fields) (fore ++ x ∷ []) (y ∷ aft)
      (subst (AllByRecursion (λ (z : Row). length z.key ≡ up.head.fields))
      (parts ∙ sym (append_assoc fore (x ∷ []) (y ∷ aft))) tells.order.keys)).0
      ∙ (tells.order.fields ∙ (ap (fields_for w.shape) (sym known_left.0)
      ∙ sym tells_left.order.fields))

  -- the page after both isn't the first one, since it begins where the second one ends
  apart : (m : ℕ) → other.head.next ≡ Some m → m ≢ page.head.number
  apart m e same =
      let next = next_pages_fit w law d r other is_right m e in
      let has : HasPageWithin w next.after.index next.after.level (low_place next.after.low)
      (high_place next.after.high) m = search in
      let known = known_page w law m next.after.index next.after.level (low_place next.after.low)
      (high_place next.after.high) has c l page is_left (sym same) in
      let over : before (low_of l) (high_of r) ≡ true =
      before-trans (low_of l) (high_of l) (high_of r) left_bounds
      (ap (λ z. before z (high_of r)) (ends ∙ sym begins) ∙ right_bounds) in
      let back : low_of l ≡ high_of r = known.2 ∙ next.meets in
      absurd (cc (over, back, before-itself (low_of l)))

  pub are_siblings : AreSiblings l r up page other y.key
  are_siblings = record {
    level = meet.0;
    index = known_left.0;
    follows = record {
      index = meet.1.index;
      level = meet.1.level;
      fields = meet.1.fields;
      next = meet.1.next;
      prev = meet.1.prev;
      high = meet.1.high;
      low = meet.1.low;
      parts = record {
        below = below_high w law c l page is_left (low_of l) y.key
            (subst (λ z. before (low_of l) z ≡ true) place left_bounds) ends long;
        from = from_low w law d r other is_right y.key begins;
      };
    };
    around = apart;
  }

pub siblings_fit : SiblingsFit
siblings_fit = are_siblings
