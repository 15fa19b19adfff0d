-- The page of a frame, as the law of trees sees it.
use Rattle.std.proofs.Common.{◌≡◌, ℕ, [], ◌∷◌, List, sym, ap, subst, ◌∙◌, Bool, Option, Some, length}
use Rattle.std.specs.List.{AllByRecursion}
use Rattle.key_tuple.specs.Order.{FieldList}
use Rattle.index_page.specs.declared.head.PageHead.{PageHead}
use Rattle.index_page.specs.Page.{PageRows, FitsLevel, IsRowOf, IsPageInOrder}
use Rattle.index_page.specs.Rows.{Row}
use Rattle.tree_law.specs.Pages.{Page, HasFields, IsOrderly, is_own}
use Rattle.index_law.specs.Shape.{Shape}
use Rattle.forest_law.specs.declared.objects.Frame.{Frame}
use Rattle.forest_law.specs.declared.objects.Object.{Object}
use Rattle.forest_law.specs.State.{bound, page_within, page_if, page_in, fields_for}
use Rattle.forest_law.specs.Turns.{HasPage}
use Rattle.forest_law.specs.Steps.{InHand, frame_step, MakesFrameStep}
use Rattle.tree_restructure.specs.Parts.{TakesPart}

-- a frame that has a page has it within its bounds
pub in_frame : (f : Frame) (p : PageRows) → f.page ≡ Some p
    → page_in f ≡ Some (page_within p f.low f.high)
in_frame f p e = ap (λ (o : Option PageRows). page_if o f.low f.high) e

-- a head has what the law sees of a page's head
pub record HasHead (h : PageHead) (q : Page) : Type 0 where
  pub index : h.index ≡ q.index
  pub level : h.level ≡ q.level
  pub fields : h.fields ≡ q.fields
  pub prev : h.prev ≡ q.prev
  pub next : h.next ≡ q.next

-- rows between bounds are a page, part by part
pub record AreSame (p : PageRows) (f : Frame) (q : Page) : Type 0 where
  pub head : HasHead p.head q
  pub low : bound f.low ≡ q.low
  pub high : bound f.high ≡ q.high
  pub rows : p.rows ≡ q.rows

-- and so they are under a head that is one of such a page
pub same_under : (p : PageRows) (f : Frame) (q : Page) {h : PageHead} → p.head ≡ h → HasHead h q
    → bound f.low ≡ q.low → bound f.high ≡ q.high → p.rows ≡ q.rows → AreSame p f q
same_under p f q is has low high rows =
    assumption (subst (λ h. HasHead h q) (sym is) has, low, high, rows)

pub same_page : (p : PageRows) (f : Frame) (q : Page) → AreSame p f q
    → page_within p f.low f.high ≡ q
same_page p f q s i = record {
  index = s.head.index i;
  level = s.head.level i;
  fields = s.head.fields i;
  prev = s.head.prev i;
  next = s.head.next i;
  low = s.low i;
  high = s.high i;
  rows = s.rows i;
}

-- so the frame has that page
pub has_page : (f : Frame) (n : ℕ) (p : PageRows) (q : Page) → f.page ≡ Some p
    → p.head.number ≡ n → AreSame p f q → HasPage f n q
has_page f n p q e number s = record {
  rows = p;
  paged = e;
  number = number;
  is = in_frame f p e ∙ ap Some (same_page p f q s);
}

keys_of : (head : PageHead) (xs : List Row) → AllByRecursion (IsRowOf head) xs
    → AllByRecursion (λ (x : Row). length x.key ≡ head.fields) xs
keys_of head [] a = tt
keys_of head (x ∷ xs) a = (a.0.fields, keys_of head xs a.1)

bodies_of : (head : PageHead) (xs : List Row) → AllByRecursion (IsRowOf head) xs
    → AllByRecursion (λ (x : Row). FitsLevel head.level x.body) xs
bodies_of head [] a = tt
bodies_of head (x ∷ xs) a = (a.0.body, bodies_of head xs a.1)

-- a page has its index's number of fields, and so have its bounds
pub record HasItsFields (fields_of : ℕ → ℕ) (q : Page) : Type 0 where
  pub fields : q.fields ≡ fields_of q.index
  pub low : HasFields q.fields q.low
  pub high : HasFields q.fields q.high

-- bounds of the same fields fit the same number of fields
fits_too : (m n : ℕ) (a b : Option FieldList) → m ≡ n → a ≡ b → HasFields n b → HasFields m a
fits_too m n a b e f h =
    subst (λ k. HasFields k a) (sym e) (subst (HasFields n) (sym f) h)

-- a page in order is in order for the law, where it and its bounds have its number of fields
orderly : (fields_of : ℕ → ℕ) (p : PageRows) (f : Frame) (q : Page) → AreSame p f q
    → IsPageInOrder p → HasItsFields fields_of q → IsOrderly fields_of q
orderly fields_of p f q s order fits = subst (IsOrderly fields_of) (same_page p f q s)
    (record {
      fields = s.head.fields ∙ fits.fields ∙ ap fields_of (sym s.head.index);
      keys = keys_of p.head p.rows order.each;
      low = fits_too _ _ _ _ s.head.fields s.low fits.low;
      high = fits_too _ _ _ _ s.head.fields s.high fits.high;
      bodies = bodies_of p.head p.rows order.each;
      places = order.places;
    })

module _ (shape : Shape) (before news : List (Option Object)) (n : ℕ) (outside : Bool)
    (hand : InHand) (part : TakesPart shape before news n outside hand) where
  -- a frame that takes part makes a step, from one page in order to another
  pub makes_step : (was is : Page) → HasPage hand.old n was → HasPage hand.new n is
      → IsOrderly (fields_for shape) is
      → MakesFrameStep shape before news (frame_step hand n was is)
  makes_step was is had has order = assumption (had, has, order)

  -- and so it does where its rows are another page, in order and of as many fields
  pub goes : (p new : PageRows) (was is : Page) → hand.old.page ≡ Some p → p.head.number ≡ n
      → AreSame p hand.old was → hand.new.page ≡ Some new → new.head.number ≡ n
      → AreSame new hand.new is → IsPageInOrder new → HasItsFields (fields_for shape) is
      → MakesFrameStep shape before news (frame_step hand n was is)
  goes p new was is had number same has numbered same_now order fits = makes_step was is
      (has_page hand.old n p was had number same)
      (has_page hand.new n new is has numbered same_now)
      (orderly (fields_for shape) new hand.new is same_now order fits)

  module _ (p : PageRows) (has : hand.old.page ≡ Some p) where
    -- its page was in order, and in the trees or outside them
    pub was_orderly : IsOrderly (fields_for shape) (page_within p hand.old.low hand.old.high)
    was_orderly = part.order (page_within p hand.old.low hand.old.high) (in_frame hand.old p has)

    pub was_own : is_own n p.head.prev ≡ outside
    was_own = part.tree (page_within p hand.old.low hand.old.high) (in_frame hand.old p has)
