-- The pages of a state stay within the budget.
use Rattle.std.proofs.Common.{◌≡◌, ℕ, zero, suc, ◌+◌, ◌*◌, ◌≤◌, Bool, true, false, List, [], ◌∷◌, ◌++◌, set, replicate, sym, ap, subst, arith, refl, Option, Some, None}
use Rattle.std.specs.Prelude.{cond}
use Rattle.std.proofs.lemmas.List.Sums.{sum_by-append, sum_by-cons}
use mathlib.Core.Option.{some, some-injective}
use mathlib.Core.Path.{fun_ext}
use lib.ListN.{get_elem?}
use Rattle.latch_law.specs.declared.knows.Entry.{Entry}
use Rattle.map_history.specs.Map.{writes}
use Rattle.index_page.specs.Loads.{charge_of}
use Rattle.tree_law.specs.Pages.{Pages, first_pages}
use Rattle.tree_law.specs.PageBudget.{Balances, short_keys, IsWithinBudget}
use Rattle.tree_law.specs.BudgetLaws.{AreWeighed}
use Rattle.tree_law.proofs.CountLemmas.{opening_within}
use Rattle.index_law.specs.Answers.{MadeChange}
use Rattle.index_law.specs.Shape.{Shape}
use Rattle.index_law.specs.State.{Entries, written_in, written_in_all}
use Rattle.forest_law.specs.declared.objects.Object.{Object}
use Rattle.forest_law.specs.State.{pages_of, heights_of, maps_of, fields_for}
use Rattle.forest_law.specs.Trees.{MapsLead}
use Rattle.forest_law.specs.Budget.{weight_of, ArePaid, paid}
use Rattle.forest_law.specs.Law.{AreLawfulObjects, Follows}
use Rattle.forest_law.proofs.ObjectLemmas.{Leads}
use Rattle.forest_law.proofs.KeepingLemmas.{ascend, lead}
use Rattle.forest_law.proofs.FramePageLemmas.{numbers_below}

-- the numbers of short keys balance
short_balances : Balances short_keys
short_balances = record {
  leaf_split = omega arith;
  first_leaf_split = omega arith;
  leaf_halves = omega arith;
  inner_split = omega arith;
  first_inner_split = omega arith;
  inner_halves = omega arith;
  two_pointers = omega arith;
  merged_leaf = omega arith;
  merged_inner = omega arith;
  some = omega arith;
  pages = omega arith;
}

-- how many rows a change writes
abbrev pub written_by : Option (ℕ × MadeChange) → ℕ
written_by None = 0
written_by (Some d) = cond (writes d.1.change) 1 0

-- a list with one change more has written what this one writes, and what the list had
pub written_in-push : (xs : Entries) (e : Entry MadeChange)
    → written_in (xs ++ e ∷ []) ≡ written_in xs + cond (writes e.change.change) 1 0
written_in-push xs e =
    let both = sum_by-append (λ (x : Entry MadeChange). cond (writes x.change.change) 1 0) xs
    (e ∷ []) in
    let one = sum_by-cons (λ (x : Entry MadeChange). cond (writes x.change.change) 1 0) e [] in
    omega (arith, both, one)

-- a list that has written more adds to what all have
pub written_in_all-set : (lists : List Entries) (i : ℕ) (xs ys : Entries) (more : ℕ)
    → get_elem? lists i ≡ some xs → written_in ys ≡ written_in xs + more
    → written_in_all (set lists i ys) ≡ written_in_all lists + more
written_in_all-set [] i xs ys more at is = absurd cc
written_in_all-set (zs ∷ lists) zero xs ys more at is =
    let same = ap written_in (some-injective zs xs at) in
    let old = sum_by-cons written_in zs lists in let new = sum_by-cons written_in ys lists in
    omega (arith, same, old, new, is)
written_in_all-set (zs ∷ lists) (suc i) xs ys more at is =
    let rest = written_in_all-set lists i xs ys more at is in
    let old = sum_by-cons written_in zs lists in
    let new = sum_by-cons written_in zs (set lists i ys) in
    omega (arith, rest, old, new)

-- nothing is written in lists without changes
pub written_in_all-none : (n : ℕ) → written_in_all (replicate n []) ≡ 0
written_in_all-none zero = refl
written_in_all-none (suc n) = let rest = written_in_all-none n in
    let one = sum_by-cons written_in [] (replicate n []) in omega (arith, rest, one)

-- a change pays as much as the rows that it writes
paid-written : (change : Option (ℕ × MadeChange))
    → paid change ≡ short_keys.full * written_by change
paid-written None = refl
paid-written (Some d) = pick (writes d.1.change)
  where
    pick : (b : Bool) → cond b short_keys.full 0 ≡ short_keys.full * cond b 1 0
    pick true = refl
    pick false = refl

-- lawful objects have weighed pages
pub pages_weighed : (sh : Shape) (xs : List Object) (lists : List Entries)
    → AreLawfulObjects sh xs lists
    → AreWeighed short_keys sh.indexes sh.pages (fields_for sh) (heights_of xs) (maps_of lists)
    (pages_of sh xs)
pages_weighed sh xs lists law = assumption (short_balances, ascend lists, numbers_below sh xs lists law)

module _ (sh : Shape) (xs ys : List Object) (before news : List (Option Object))
    (leads : Leads xs ys before news) (lists : List Entries)
    (law : AreLawfulObjects sh xs lists) (lists' : List Entries)
    (change : Option (ℕ × MadeChange)) (f : Follows sh before news change)
    (maps_lead : MapsLead change (maps_of lists) (maps_of lists')) where
  -- the weight grows by no more than the change pays
  step_pays : weight_of sh (pages_of sh ys) ≤ weight_of sh (pages_of sh xs) + paid change
  step_pays = f.pays (heights_of xs) (maps_of lists) (maps_of lists') maps_lead (pages_of sh xs)
      (pages_of sh ys) (pages_weighed sh xs lists law)
      (lead sh xs ys before news leads lists law lists' change f maps_lead)

  -- so the budget lasts
  pub budget_lasts : written_in_all lists' ≡ written_in_all lists + written_by change
      → ArePaid sh xs lists → ArePaid sh ys lists'
  budget_lasts more within = let pays = step_pays in let price = paid-written change in
      omega (arith, more, within, pays, price)

-- the pages of an opening are within the budget
pub budget_opens : (sh : Shape) (objects : List Object)
    → ((n : ℕ) → pages_of sh objects n ≡ first_pages (fields_for sh) sh.indexes n)
    → ArePaid sh objects (replicate sh.indexes [])
budget_opens sh objects are =
    subst (λ (pages : Pages). IsWithinBudget short_keys charge_of sh.indexes sh.pages
    (written_in_all (replicate sh.indexes [])) pages) (sym (fun_ext are))
    (subst (λ puts. IsWithinBudget short_keys charge_of sh.indexes sh.pages puts
    (first_pages (fields_for sh) sh.indexes)) (sym (written_in_all-none sh.indexes))
    (opening_within short_keys charge_of short_balances (fields_for sh) sh.indexes sh.pages))
