use Rattle.std.proofs.Common.{◌≡◌, List, [], take, drop, sym, ap, ◌∙◌, subst, arith, ℕ, refl, ◌≤◌, ◌-◌, length}
use Rattle.key_tuple.specs.Limits.{IsWithinLimits}
use Rattle.list_facts.proofs.Each.{each_weaker}
use Rattle.index_page.specs.Rows.{Row, SameRows}
use Rattle.index_page.specs.Page.{PageRows, IsRowOf, IsPageInOrder}
use Rattle.index_page.specs.Loads.{load_of}
use Rattle.index_page.proofs.HalvesLemmas.{load_of-parts}
use Rattle.index_page.proofs.AppendLemmas.{appended_order, appended_load, rows_within_load}
use Rattle.index_page.proofs.PartLemmas.{first_rows, other_rows, moves_tail}
use Rattle.std.proofs.lemmas.List.Sums.{sum_by-take-le}
use Rattle.index_page.specs.Store.{Appends}
use Rattle.index_page.specs.Search.{IsPosition}
use Rattle.index_page.proofs.RowLemmas.{get_below}
use Rattle.index_page.proofs.LoadLemmas.{row_charge}
use Rattle.index_page.proofs.page.Page.move_tail.Goals as goal

-- a row with that number is no further than the last
at_within : (stored now : PageRows) (place at : ℕ) → stored ≡ now → IsPosition now.rows place at → at ≤ length stored.rows
at_within stored now place at same position = omega (arith, get_below now.rows at position.row position.there, ap (λ (p : PageRows). length p.rows) same)

-- what was counted of the rows is no more than all
part_within : (stored now : PageRows) (at part whole : ℕ) → stored ≡ now → part ≡ load_of (take at now.rows) → whole ≡ load_of stored.rows → part ≤ whole
part_within stored now at part whole same counted charged =
    let less : load_of (take at now.rows) ≤ load_of now.rows = sum_by-take-le row_charge now.rows at in
    omega (arith, less, ap (λ (p : PageRows). load_of p.rows) same)

-- what is left of the load is that of the rows that moved
rest_load : (stored now : PageRows) (tail : List Row) (at first whole : ℕ) → stored ≡ now → Appends [] tail (drop at stored.rows) → first ≡ load_of (take at now.rows) → whole ≡ load_of stored.rows → whole - first ≡ load_of tail
rest_load stored now tail at first whole same appends counted charged =
    omega (arith, appended_load [] tail (drop at stored.rows) appends, counted, ap (λ (p : PageRows). load_of (take at p.rows)) same, charged, load_of-parts stored.rows at)

-- what was counted is the load of the rows that were kept
kept_load : (stored now : PageRows) (kept : List Row) (at first : ℕ) → stored ≡ now → kept ≡ take at stored.rows → first ≡ load_of (take at now.rows) → first ≡ load_of kept
kept_load stored now kept at first same is counted = counted ∙ ap (λ (p : PageRows). load_of (take at p.rows)) (sym same) ∙ ap load_of (sym is)

pub tail-requires-clause-keys : goal.tail-requires-clause-keys
tail-requires-clause-keys c =
    each_weaker (IsRowOf c.self.inside.head) (λ (x : Row). IsWithinLimits x.key) (λ (x : Row) of. of.limits) c.self.inside.rows c.self.invariant.each

pub tail-requires-clause-room : goal.tail-requires-clause-room
tail-requires-clause-room c = omega (arith, rows_within_load c.self.inside.rows, c.self.invariant.fits)

pub invariant_of-self : goal.invariant_of-self
invariant_of-self c =
    let first = first_rows (record { head = c.self.inside.head; rows = c.self.inside.rows }) c.position-at.result c.self.invariant in
    subst (λ (rows : List Row). IsPageInOrder (record { head = c.self.inside.head; rows = rows })) (sym c.keep_first.ensures) first

pub invariant_of-to : goal.invariant_of-to
invariant_of-to c =
    let level = ap (λ (p : PageRows). p.head.level) c.to.view_is ∙ c.requires.level ∙ sym (ap (λ (p : PageRows). p.head.level) c.self.view_is) in
    let fields = ap (λ (p : PageRows). p.head.fields) c.to.view_is ∙ c.requires.fields ∙ sym (ap (λ (p : PageRows). p.head.fields) c.self.view_is) in
    let others = other_rows (record { head = c.self.inside.head; rows = c.self.inside.rows }) c.position-at.result c.self.invariant c.to.inside.head level fields c.to.invariant.prev c.to.invariant.next in
    appended_order c.to.inside.head [] c.in_ok-tail.tail (drop c.position-at.result c.self.inside.rows) c.in_ok-tail.ensures tt others.each others.ascend (omega (arith, others.fits)) c.to.invariant.prev c.to.invariant.next

pub invariant_of-to-inside : goal.invariant_of-to-inside
invariant_of-to-inside c = (
  rest_load (record { head = c.self.inside.head; rows = c.self.inside.rows }) c.args.self.now c.in_ok-tail.tail c.position-at.result c.load_of_first-load.result c.self.inside.load c.self.view_is c.in_ok-tail.ensures
      c.load_of_first-load.ensures c.self.inside.charged,
  tt,
)

pub returns-clause-ok : goal.returns-clause-ok
returns-clause-ok c =
    let rows = ap (λ (p : PageRows). p.rows) c.self.view_is in
    let all = c.in_ok-tail.ensures in
    let same = subst (SameRows (drop c.position-at.result c.self.inside.rows)) (sym all.rows) all.same in
    moves_tail c.args.self.now _ c.args.to.now _ c.args.first c.position-at.result c.position-at.ensures.row
    (ap (λ (p : PageRows). p.head) c.self.view_is)
    (subst (λ (zs : List Row). c.keep_first.new.self ≡ take c.position-at.result zs) rows c.keep_first.ensures)
    (ap (λ (p : PageRows). p.head) c.to.view_is)
    (subst (λ (zs : List Row). SameRows (drop c.position-at.result zs) c.in_ok-tail.tail) rows same)

pub keep_first-requires : goal.keep_first-requires
keep_first-requires c =
    at_within _ c.args.self.now c.args.first c.position-at.result c.self.view_is c.position-at.ensures.row

pub overflow_sub-to : goal.overflow_sub-to
overflow_sub-to c =
    part_within _ c.args.self.now c.position-at.result c.load_of_first-load.result c.self.inside.load c.self.view_is c.load_of_first-load.ensures c.self.inside.charged

pub load_of_first-load-requires : goal.load_of_first-load-requires
load_of_first-load-requires c =
    at_within c.args.self.now c.args.self.now c.args.first c.position-at.result refl c.position-at.ensures.row

pub invariant_of-self-inside : goal.invariant_of-self-inside
invariant_of-self-inside c =
    (kept_load (record { head = c.self.inside.head; rows = c.self.inside.rows }) c.args.self.now c.keep_first.new.self c.position-at.result c.load_of_first-load.result c.self.view_is c.keep_first.ensures c.load_of_first-load.ensures, tt)

pub tail-requires-clause-first : goal.tail-requires-clause-first
tail-requires-clause-first c =
    at_within _ c.args.self.now c.args.first c.position-at.result c.self.view_is c.position-at.ensures.row
