-- What each step pays for.
use Rattle.std.proofs.Common.{◌≡◌, ◌≢◌, ℕ, ◌+◌, ◌≤◌, List, [], length, sym, ap, subst, arith, Some, None}
use Rattle.std.specs.Prelude.{cond}
use mathlib.Core.Path.{fun_ext}
use Rattle.map_history.specs.Map.{Map, MapChange, Put, Set, Del, value_of, writes}
use Rattle.index_page.specs.Loads.{charge_of, load_of}
use Rattle.tree_law.specs.Pages.{Pages}
use Rattle.tree_law.specs.PageChanges.{PageChange, LeadTo, taken_back}
use Rattle.tree_law.specs.PageMoves.{SplitsPage, MergesPages, halves_changes, TwoStoreys, storeys_changes, WritesPage, write_changes, ChangesOutside, outside_changes, Rearranges, rearrange_changes}
use Rattle.tree_law.specs.PageBudget.{short_keys}
use Rattle.tree_law.specs.BudgetLaws.{SplitIsDue, AreWeighed, MovesPay}
use Rattle.tree_law.proofs.AllPayLemmas.{moves_pay}
use Rattle.index_law.specs.Answers.{MadeChange}
use Rattle.index_law.specs.Shape.{Shape}
use Rattle.forest_law.specs.State.{fields_for}
use Rattle.forest_law.specs.Trees.{MapsLead}
use Rattle.forest_law.specs.Budget.{weight_of, Pays}

module _ (sh : Shape) where
  -- the pages are weighed, for the keys of the space
  abbrev pub AreWeighedFor : (ℕ → ℕ) → (ℕ → Map) → Pages → Type 0
  AreWeighedFor heights maps pages =
      AreWeighed short_keys sh.indexes sh.pages (fields_for sh) heights maps pages

  module _ (heights : ℕ → ℕ) (maps : ℕ → Map) (pages : Pages)
      (weighed : AreWeighedFor heights maps pages) where
    -- what each move of these pages pays
    all_pay : MovesPay short_keys charge_of sh.indexes sh.pages (fields_for sh) heights maps pages
    all_pay = moves_pay short_keys charge_of sh.indexes sh.pages (fields_for sh) heights maps pages
        weighed

    -- a change of a row: a put or a set pays for a full leaf, and a del adds nothing
    pub write_is_paid : (pages' : Pages) (maps' : ℕ → Map) (n : ℕ) (w : WritesPage maps maps' n)
        (c : MapChange) → w.value ≡ value_of c → LeadTo pages pages' (write_changes maps maps' n w)
        → weight_of sh pages' ≤ weight_of sh pages + cond (writes c) short_keys.full 0
    write_is_paid pages' maps' n w (Put k v) is to = all_pay.write pages' maps' n w to
    write_is_paid pages' maps' n w (Set k v) is to = all_pay.write pages' maps' n w to
    write_is_paid pages' maps' n w (Del k) is to =
        let less = all_pay.del pages' maps' n w to is in omega (arith, less)

  -- what adds nothing pays
  free_pays : (turned : List PageChange)
      → ((heights : ℕ → ℕ) (maps : ℕ → Map) (pages pages' : Pages)
      → AreWeighedFor heights maps pages → LeadTo pages pages' turned
      → weight_of sh pages' ≤ weight_of sh pages) → Pays sh None turned
  free_pays turned less heights maps maps' lead pages pages' weighed to =
      let most = less heights maps pages pages' weighed to in omega (arith, most)

  -- a step that changes no page
  pub rest_is_paid : Pays sh None []
  rest_is_paid = free_pays [] (λ heights maps pages pages' weighed to.
      (let same : pages' ≡ pages = fun_ext (λ n. to.others n tt) in
      let weight = ap (weight_of sh) same in omega (arith, weight)))

  -- a split that is due
  pub split_is_paid : (left right parent : ℕ) (s : SplitsPage left right parent)
      → SplitIsDue short_keys charge_of left right parent s
      → Pays sh None (halves_changes left right parent s.halves)
  split_is_paid left right parent s due = free_pays (halves_changes left right parent s.halves)
      (λ heights maps pages pages' weighed to.
      (all_pay heights maps pages weighed).split pages' left right parent s to due)

  -- a merge of two pages that are small enough
  pub merge_is_paid : (left right parent : ℕ) (m : MergesPages left right parent)
      → load_of m.halves.lower + load_of m.halves.moved ≤ short_keys.merged
      → Pays sh None (taken_back (halves_changes left right parent m.halves))
  merge_is_paid left right parent m small =
      free_pays (taken_back (halves_changes left right parent m.halves))
      (λ heights maps pages pages' weighed to.
      (all_pay heights maps pages weighed).merge pages' left right parent m to small)

  -- a raise of a leaf, or of a page whose children aren't one
  pub raise_is_paid : (root under : ℕ) (s : TwoStoreys root under)
      → (s.level ≢ 0 → length s.rows ≢ 1) → Pays sh None (storeys_changes root under s)
  raise_is_paid root under s two = free_pays (storeys_changes root under s)
      (λ heights maps pages pages' weighed to.
      (all_pay heights maps pages weighed).raise pages' root under s to two)

  -- a lift
  pub lift_is_paid : (root under : ℕ) (s : TwoStoreys root under)
      → Pays sh None (taken_back (storeys_changes root under s))
  lift_is_paid root under s = free_pays (taken_back (storeys_changes root under s))
      (λ heights maps pages pages' weighed to.
      (all_pay heights maps pages weighed).lift pages' root under s to)

  -- a page outside the trees that comes, goes or becomes another
  pub outside_is_paid : (n : ℕ) (o : ChangesOutside n) → Pays sh None (outside_changes n o)
  outside_is_paid n o = free_pays (outside_changes n o) (λ heights maps pages pages' weighed to.
      (let same = (all_pay heights maps pages weighed).outside pages' n o to in
      omega (arith, same)))

  -- a page that is rearranged
  pub rearrange_is_paid : (n : ℕ) (r : Rearranges n) → Pays sh None (rearrange_changes n r)
  rearrange_is_paid n r = free_pays (rearrange_changes n r) (λ heights maps pages pages' weighed to.
      (let same = (all_pay heights maps pages weighed).rearrange pages' n r to in
      omega (arith, same)))

  -- a change of a row of one page
  pub row_is_paid : (d : ℕ × MadeChange) (n : ℕ) (turned : List PageChange)
      → ((maps maps' : ℕ → Map) → MapsLead (Some d) maps maps' → (w : WritesPage maps maps' n)
      × (w.value ≡ value_of d.1.change) × (write_changes maps maps' n w ≡ turned))
      → Pays sh (Some d) turned
  row_is_paid d n turned writing heights maps maps' lead pages pages' weighed to =
      let w = writing maps maps' lead in
      write_is_paid heights maps pages weighed pages' maps' n w.0 d.1.change w.1
      (subst (LeadTo pages pages') (sym w.2) to)
