use Rattle.std.proofs.Common.{◌≡◌, ◌+◌, ◌-◌, ◌<◌, ◌≤◌, ℕ, List, Some, take, drop, max, arith, ap, ap₂, sym, ◌∙◌, length, subst}
use Rattle.std.proofs.lemmas.List.Sums.{sum_by-take-le}
use Rattle.std.specs.List.{slice_get}
use Rattle.index_page.specs.Rows.{Row, placed_row}
use Rattle.index_page.specs.Page.{PageRows, IsRowOf}
use Rattle.list_facts.proofs.Each.{each_get}
use Rattle.index_page.specs.Loads.{load_of, larger_part}
use Rattle.index_page.proofs.LoadLemmas.{row_charge, load_with}
use Rattle.index_page.proofs.AppendLemmas.{rows_within_load}
use Rattle.index_page.proofs.HalvesLemmas.{IsBest, load_of-parts, best_new, best_old, halves}
use Rattle.index_page.proofs.page.Page.split_point.Goals.{then-larger-least, else-larger-least}
use Rattle.index_page.proofs.page.Page.split_point.Goals as goal

-- what was counted of the first rows, or what is left of the load
larger_of : (rows : List Row) (i sum whole larger : ℕ) → sum ≡ load_of (take i rows) → whole ≡ load_of rows → larger ≡ max sum (whole - sum) → larger ≡ larger_part rows i
larger_of rows i sum whole larger counted charged is =
    let rest : whole - sum ≡ load_of (drop i rows) = omega (arith, counted, charged, load_of-parts rows i) in
    is ∙ ap₂ (λ (a b : ℕ). max a b) counted rest

at_last : (cut last : ℕ) → cut ≡ last → cut ≤ last
at_last cut last is = omega arith

as_before : (cut before i : ℕ) → cut ≡ before → before ≤ i → cut ≤ i + 1
as_before cut before i is within = omega arith

less_then : (a b x y : ℕ) → a ≡ x → b ≡ y → a < b → x < y
less_then a b x y a_is b_is less = omega arith

no_less_then : (a b x y : ℕ) → a ≡ x → b ≡ y → b ≤ a → y ≤ x
no_less_then a b x y a_is b_is more = omega arith

pub charge-left-requires-clause-short : goal.charge-left-requires-clause-short
charge-left-requires-clause-short c = (each_get (IsRowOf c.self.inside.head) c.self.inside.rows c.loop-i.i _ c.self.invariant.each c.stored.ensures).short

pub overflow_sub-self-inside : goal.overflow_sub-self-inside
overflow_sub-self-inside c =
    let rows = c.args.self.now.rows in
    let row = placed_row c.stored.result.0 c.stored.result.1.key c.stored.result.1.body in
    let there = subst (λ (p : PageRows). slice_get p.rows c.loop-i.i ≡ Some row) c.self.view_is c.stored.ensures in
    let sum = load_with rows c.loop-i.i row c.loop-i.left c.charge-left.result there c.loop-i.invariant.sum c.charge-left.ensures.charge in
    let part : load_of (take (c.loop-i.i + 1) rows) ≤ load_of rows = sum_by-take-le row_charge rows (c.loop-i.i + 1) in
    omega (arith, part, sum, c.self.inside.charged, ap (λ (p : PageRows). load_of p.rows) c.self.view_is)

pub overflow_add-left : goal.overflow_add-left
overflow_add-left c = omega (arith, overflow_sub-self-inside c, c.self.invariant.fits, c.self.inside.charged, ap (λ (p : PageRows). load_of p.rows) c.self.view_is)

pub loop-i-preserved : goal.loop-i-preserved
loop-i-preserved c =
    let rows = c.args.self.now.rows in
    let row = placed_row c.stored.result.0 c.stored.result.1.key c.stored.result.1.body in
    let there = subst (λ (p : PageRows). slice_get p.rows c.loop-i.i ≡ Some row) c.self.view_is c.stored.ensures in
    let sum = load_with rows c.loop-i.i row c.loop-i.left c.charge-left.result there c.loop-i.invariant.sum c.charge-left.ensures.charge in
    let larger = larger_of rows (c.loop-i.i + 1) (c.loop-i.left + c.charge-left.result) c.self.inside.load c.max-larger.result sum (c.self.inside.charged ∙ ap (λ (p : PageRows). load_of p.rows) c.self.view_is) c.max-larger.ensures in
    let was = c.loop-i.invariant.larger in
    elim c.if-larger-least.branch [
      | then-larger-least w ↦ record {
        sum = sum;
        within = at_last _ (c.loop-i.i + 1) w.cut-is;
        larger = w.least-is ∙ larger ∙ ap (larger_part rows) (sym w.cut-is);
        best = subst (IsBest rows (c.loop-i.i + 1)) (sym w.cut-is) (best_new rows c.loop-i.i c.loop-i.cut c.loop-i.invariant.best (less_then c.max-larger.result c.loop-i.least (larger_part rows (c.loop-i.i + 1)) (larger_part rows c.loop-i.cut) larger was w.if-larger-least.true));
      }
      | else-larger-least w ↦ record {
        sum = sum;
        within = as_before _ c.loop-i.cut c.loop-i.i w.cut-is c.loop-i.invariant.within;
        larger = w.least-is ∙ was ∙ ap (larger_part rows) (sym w.cut-is);
        best = subst (IsBest rows (c.loop-i.i + 1)) (sym w.cut-is) (best_old rows c.loop-i.i c.loop-i.cut c.loop-i.invariant.best (no_less_then c.max-larger.result c.loop-i.least (larger_part rows (c.loop-i.i + 1)) (larger_part rows c.loop-i.cut) larger was w.if-larger-least.false));
      }
    ]

pub returns : goal.returns
returns c =
    let long = ap (λ (p : PageRows). length p.rows) c.self.view_is in
    let last : c.loop-i.i ≡ length c.args.self.now.rows = omega (arith, c.loop-i-test.false, c.loop-i.auto.i-end, c.len-i-end.ensures, long) in
    let best = subst (λ n. IsBest c.args.self.now.rows n c.loop-i.cut) last c.loop-i.invariant.best in
    halves c.args.self.now.rows c.loop-i.cut c.requires (omega (arith, last, c.loop-i.invariant.within)) best.least best.first

pub overflow_cast-result : goal.overflow_cast-result
overflow_cast-result c =
    omega (arith, c.loop-i.invariant.within, c.loop-i-test.false, c.loop-i.auto.i-end, c.len-i-end.ensures, rows_within_load c.self.inside.rows, c.self.invariant.fits)

pub charge-left-requires-clause-limits : goal.charge-left-requires-clause-limits
charge-left-requires-clause-limits c =
    (each_get (IsRowOf c.self.inside.head) c.self.inside.rows c.loop-i.i _ c.self.invariant.each c.stored.ensures).limits
