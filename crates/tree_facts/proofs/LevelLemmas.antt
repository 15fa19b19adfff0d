-- A tree has fewer levels than there are page numbers.
use Rattle.std.proofs.Common.{◌≡◌, ℕ, zero, suc, ◌<◌, ◌≤◌, ◌∷◌, [], List, Bool, true, false, Some, refl, sym, ap, subst, ◌∙◌, arith, length}
use Rattle.std.specs.Prelude.{nat_eq, ◌||◌}
use Rattle.std.specs.List.{IsDistinct, AllByRecursion, list_any}
use Rattle.std.proofs.lemmas.Bool.{ne_eqb, eqb-true}
use Rattle.std.proofs.lemmas.Map.Keys.{IsDistinct-cons}
use Rattle.std.proofs.lemmas.Map.Steps.{length-le_from_distinct_below}
use Rattle.key_tuple.specs.KeyPlace.{Start, before}
use Rattle.key_tuple.proofs.PlaceLemmas.{cut_after, Start-End}
use Rattle.list_facts.proofs.Each.{each_weaker}
use Rattle.tree_law.specs.TreeShape.{Outline, HasCut}
use Rattle.tree_law.specs.Pages.{Page, forest}
use Rattle.tree_law.proofs.OnePageLemmas.{one_page}
use Rattle.tree_law.proofs.PageRowLemmas.{own_is, own_of}
use Rattle.forest_law.specs.State.{ForestState, pages_of, heights_of}
use Rattle.forest_law.specs.Law.{IsLawful}
use Rattle.forest_law.proofs.FramePageLemmas.{number_below, cuts_have_pages}
use Rattle.tree_facts.specs.Levels.{LevelsAreFew}

-- what holds of each number of a list holds of one that is found there
found_below : (limit : ℕ) (ns : List ℕ) → AllByRecursion (λ n. n < limit) ns → (q : ℕ)
    → list_any (nat_eq q) ns ≡ true → q < limit
found_below limit [] each q e = absurd cc
found_below limit (n ∷ ns) each q e = pick (nat_eq q n) refl (found_below limit ns each.1 q)
  where
    pick : (b : Bool) → nat_eq q n ≡ b → (list_any (nat_eq q) ns ≡ true → q < limit) → q < limit
    pick true same rest = subst (λ z. z < limit) (sym (eqb-true q n same)) each.0
    pick false apart rest = rest (sym (ap (λ b. b || list_any (nat_eq q) ns) apart) ∙ e)

-- a number of a list that differs from the others goes before them
apart_cons : (n : ℕ) (ns : List ℕ) → AllByRecursion (λ m. n ≡ m → ⊥) ns
    → IsDistinct nat_eq ns → IsDistinct nat_eq (n ∷ ns)
apart_cons n ns apart distinct = IsDistinct-cons nat_eq n ns
    (each_weaker (λ m. n ≡ m → ⊥) (λ m. nat_eq n m ≡ false) (λ m ne. ne_eqb n m ne) ns apart)
    distinct

none_apart : IsDistinct nat_eq []
unfolding IsDistinct
none_apart = tt

module _ (w : ForestState) (law : IsLawful w) where
  module _ (i : ℕ) (below : i < w.shape.indexes) where
    -- the first page of a level
    abbrev IsFirstOn : ℕ → ℕ → Type 0
    IsFirstOn level n = HasCut (forest (pages_of w.shape w.objects)) (before Start) i level n

    -- its number is below the shape's
    first_below : (level n : ℕ) → IsFirstOn level n → n < w.shape.pages
    first_below level n has = let found = cuts_have_pages w law (before Start) i level n has in
        number_below w law n found.page found.at

    -- pages of two levels are two
    levels_apart : (j k m n : ℕ) → j < k → IsFirstOn k m → IsFirstOn j n → m ≡ n → ⊥
    levels_apart j k m n less a b e = let same : a.page ≡ b.page =
        cc (a.is, b.is, ap (forest (pages_of w.shape w.objects)) e) in
        let level = sym a.at_level ∙ (ap (λ (o : Outline). o.level) same ∙ b.at_level) in
        omega (arith, less, level)

    -- the first pages of so many levels
    record FirstPages (k : ℕ) : Type 0 where
      numbers : List ℕ
      count : length numbers ≡ k
      distinct : IsDistinct nat_eq numbers
      each : AllByRecursion (λ n. (level : ℕ) × (level < k) × IsFirstOn level n) numbers

    first_pages : (k : ℕ) → k ≤ suc (heights_of w.objects i) → FirstPages k
    first_pages zero few = record {
      numbers = [];
      count = refl;
      distinct = none_apart;
      each = tt;
    }
    first_pages (suc k) few = let rest = first_pages k (omega (arith, few)) in
        let one = (one_page w.shape.indexes (heights_of w.objects)
        (forest (pages_of w.shape w.objects)) law.objects.pages.shape (before Start)
        (cut_after Start Start-End) i k below (omega (arith, few))).0 in
        record {
          numbers = one.0 ∷ rest.numbers;
          count = omega (arith, rest.count);
          distinct = apart_cons one.0 rest.numbers
              (each_weaker (λ n. (level : ℕ) × (level < k) × IsFirstOn level n)
              (λ n. one.0 ≡ n → ⊥) (λ n on. levels_apart on.0 k one.0 n on.1 one.1 on.2)
              rest.numbers rest.each) rest.distinct;
          each = (
            (k, omega arith, one.1),
            each_weaker (λ n. (level : ℕ) × (level < k) × IsFirstOn level n)
                (λ n. (level : ℕ) × (level < suc k) × IsFirstOn level n)
                (λ n on. (on.0, omega (arith, on.1), on.2)) rest.numbers rest.each,
          );
        }

    -- a page outside the trees is none of them
    outside_apart : (n : ℕ) (page : Page) → pages_of w.shape w.objects n ≡ Some page
        → page.prev ≡ Some n → (level m : ℕ) → IsFirstOn level m → n ≡ m → ⊥
    outside_apart n page is own level m has e = absurd (cc (
      has.is,
      own_is (pages_of w.shape w.objects) n page is (own_of n page.prev own),
      ap (forest (pages_of w.shape w.objects)) e,
    ))

pub levels_are_few : LevelsAreFew
levels_are_few w law i below n page is own =
    let pages = first_pages w law i below (suc (heights_of w.objects i)) (omega arith) in
    let on : ℕ → Type 0 = λ m. (level : ℕ) × (level < suc (heights_of w.objects i))
    × HasCut (forest (pages_of w.shape w.objects)) (before Start) i level m in
    let apart = apart_cons n pages.numbers
    (each_weaker on (λ m. n ≡ m → ⊥)
    (λ m at. outside_apart w law i below n page is own at.0 m at.2) pages.numbers pages.each)
    pages.distinct in
    let under : AllByRecursion (λ m. m < w.shape.pages) (n ∷ pages.numbers) = (
      number_below w law n page is,
      each_weaker on (λ m. m < w.shape.pages)
          (λ m at. first_below w law i below at.0 m at.2) pages.numbers pages.each,
    ) in
    let few = length-le_from_distinct_below (n ∷ pages.numbers) w.shape.pages apart
    (found_below w.shape.pages (n ∷ pages.numbers) under) in
    omega (arith, few, pages.count)
