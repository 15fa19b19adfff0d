-- Where each number has a page, there are so few that the trees may need them all.
use Rattle.std.proofs.Common.{◌≡◌, ◌≢◌, ℕ, zero, suc, ◌+◌, ◌<◌, ◌≤◌, Bool, true, false, cond, refl, sym, ap, subst, ◌∙◌, arith, Option, Some, None}
use Rattle.index_page.specs.Loads.{charge_of}
use Rattle.tree_law.specs.Pages.{Page, is_own}
use Rattle.tree_law.specs.PageBudget.{short_keys, tree_count, sum_to}
use Rattle.tree_law.proofs.CountLemmas.{pages_are_few}
use Rattle.tree_law.specs.BudgetLaws.{NumbersBalance}
use Rattle.index_law.specs.State.{written_in_all}
use Rattle.forest_law.specs.declared.objects.Where.{Where}
use Rattle.forest_law.specs.declared.objects.Where.TheVariants.{Free, InFrame, Image}
use Rattle.forest_law.specs.State.{ForestState, page_within, page_if, page_of, page_stored, where_at, places, page_where, pages_of}
use Rattle.forest_law.specs.Law.{IsLawful}
use Rattle.forest_law.specs.Outside.{IsHeldOutside}
use Rattle.forest_law.specs.OutsideLaws.{FullPoolsAreShort}
use Rattle.forest_law.proofs.PigeonLemmas.{one_if, pigeons}

-- the page is outside the trees
abbrev is_outside : ℕ → Option Page → Bool
is_outside n None = false
is_outside n (Some page) = is_own n page.prev

module _ (w : ForestState) (law : IsLawful w)
    (used : (n : ℕ) → n < w.shape.pages → where_at (places w.objects) n ≢ Free) where
  abbrev page_at : ℕ → Option Page
  page_at n = pages_of w.shape w.objects n

  abbrev outside : ℕ → Bool
  outside n = is_outside n (page_at n)

  -- who holds a page outside the trees
  given : (n : ℕ) → outside n ≡ true → (name : ℕ) × (name < w.passes) × IsHeldOutside w n name
  given n = with_page (page_at n) refl
    where
      with_page : (o : Option Page) → page_at n ≡ o → is_outside n o ≡ true
          → (name : ℕ) × (name < w.passes) × IsHeldOutside w n name
      with_page None e own = absurd cc
      with_page (Some page) e own = law.outside.held n page e own

  -- the same as a function of the number alone; 0 where the page is none outside
  abbrev name_of : (b : Bool) (n : ℕ) → outside n ≡ b → ℕ
  name_of true n e = (given n e).0
  name_of false n e = 0

  abbrev name : ℕ → ℕ
  name n = name_of (outside n) n refl

  named : (b : Bool) (n : ℕ) (e : outside n ≡ b) → b ≡ true
      → (name_of b n e < w.passes) × IsHeldOutside w n (name_of b n e)
  named true n e t = ((given n e).1, (given n e).2)
  named false n e t = absurd cc

  -- no more pages are outside the trees than there are passes
  few_outside : sum_to (one_if outside) w.shape.pages ≤ w.passes
  few_outside = pigeons outside name w.shape.pages w.passes
      (λ n less t. (named (outside n) n refl t).0)
      (λ n m less more t u same. law.outside.one n m (name m)
      (subst (IsHeldOutside w n) same (named (outside n) n refl t).1)
      (named (outside m) m refl u).1)

  -- each number has a page
  has_page : (n : ℕ) → n < w.shape.pages → (page : Page) × (page_at n ≡ Some page)
  has_page n less = at (where_at (places w.objects) n) refl
    where
      at : (x : Where) → where_at (places w.objects) n ≡ x
          → (page : Page) × (page_at n ≡ Some page)
      at Free e = absurd (used n less e)
      at (InFrame b) e = let there = law.objects.placed.there n b e in
          let f = there.frame in (
            page_within there.page f.low f.high,
            ap (page_where w.shape w.objects n) e
                ∙ (ap page_of there.at ∙ ap (λ p. page_if p f.low f.high) there.paged),
          )
      at Image e = let image = law.objects.placed.stored n e in (
        page_within image.0.page image.0.low image.0.high,
        ap (page_where w.shape w.objects n) e ∙ ap page_stored image.1,
      )

  -- so it is in the trees or outside
  one_each : (n : ℕ) → n < w.shape.pages
      → 1 ≤ tree_count n (page_at n) + cond (outside n) 1 0
  one_each n less = let has = has_page n less in
      subst (λ o. 1 ≤ tree_count n o + cond (is_outside n o) 1 0) (sym has.1)
      (either (is_own n has.0.prev))
    where
      either : (own : Bool) → 1 ≤ cond own 0 1 + cond own 1 0
      either true = omega arith
      either false = omega arith

  all_count : (k : ℕ) → k ≤ w.shape.pages
      → k ≤ sum_to (λ n. tree_count n (page_at n)) k + sum_to (one_if outside) k
  all_count zero less = omega arith
  all_count (suc k) less = let rest = all_count k (omega arith) in
      let one = one_each k (omega arith) in omega (arith, rest, one)

-- a pool in which no number is free is short of pages
pub full_pools_are_short : NumbersBalance → FullPoolsAreShort
full_pools_are_short balance w law used =
    let trees = pages_are_few short_keys charge_of balance.short w.shape.indexes
    w.shape.pages (written_in_all w.lists) (pages_of w.shape w.objects) law.budget in
    let outside = few_outside w law used in
    let all = all_count w law used w.shape.pages (omega arith) in
    omega (arith, trees, outside, all)
