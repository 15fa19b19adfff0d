use Rattle.std.proofs.Common.{◌≡◌, length, take, drop, sym, ap, ◌∙◌, subst, arith, ℕ, ◌<◌, Option, IfSome}
use Rattle.std.proofs.lemmas.List.{take-append-drop, length-take-le}
use Rattle.index_page.specs.Rows.{first_of_rows, IsAt}
use Rattle.index_page.specs.Page.{PageRows}
use Rattle.index_page.specs.Search.{agreement, nth_row}
use Rattle.index_page.proofs.BesideLemmas.{last_beside, first_beside, none_beside}
use Rattle.index_page.proofs.page.Page.search.Given.{Over}
use Rattle.index_page.proofs.page.Page.search.Goals.{then-cut-len, else-cut-len}
use Rattle.index_page.proofs.page.Page.search.Goals as goal

-- the row after the cut, where there is one
row_after : (g : Over) (c : goal.After-up-1 g) → nth_row c.args.self.now.rows c.if-cut-len.after_cut ≡ first_of_rows (drop c.cut-cut.result c.args.self.now.rows)
row_after g c =
    elim (c.if-cut-len.branch) [
      | then-cut-len w ↦ ap (nth_row c.args.self.now.rows) w.after_cut-is ∙ first_beside c.args.self.now.rows c.cut-cut.result
      | else-cut-len w ↦ ap (nth_row c.args.self.now.rows) w.after_cut-is ∙ none_beside c.args.self.now.rows c.cut-cut.result (omega (arith, w.if-cut-len.false, c.len.ensures, ap (λ (p : PageRows). length p.rows) c.self.view_is))
    ]

pub returns : goal.returns
returns g c =
    let tuple = g.A.Fields.fields_of c.args.tuple.now in
    let rows = c.args.self.now.rows in
    let last = last_beside rows c.cut-cut.result c.checked_sub.result c.cut-cut.ensures.within c.checked_sub.ensures in
    let first = row_after g c in
    record {
      left = take c.cut-cut.result rows;
      right = drop c.cut-cut.result rows;
      split = sym (take-append-drop c.cut-cut.result rows);
      out = c.cut-cut.ensures.out;
      past = c.cut-cut.ensures.past;
      before_at = subst (IsAt rows c.agreement-before.result.0) last c.agreement-before.ensures.place;
      after_at = subst (IsAt rows c.agreement-after.result.0) first c.agreement-after.ensures.place;
      low = ◌∙◌ {b = agreement tuple (nth_row rows c.checked_sub.result)} c.agreement-before.ensures.figures (ap (agreement tuple) last);
      up = ◌∙◌ {b = agreement tuple (nth_row rows c.if-cut-len.after_cut)} c.agreement-after.ensures.figures (ap (agreement tuple) first);
      cut = sym (length-take-le c.cut-cut.result rows c.cut-cut.ensures.within);
    }

pub agreement-after-requires-clause-within : goal.agreement-after-requires-clause-within
agreement-after-requires-clause-within g c =
    let rows = c.args.self.now.rows in
    elim (c.if-cut-len.branch) [
      | then-cut-len w ↦
          let below : c.cut-cut.result < length rows = omega (arith, w.if-cut-len.true, c.len.ensures, ap (λ (p : PageRows). length p.rows) c.self.view_is) in
          subst (λ (o : Option ℕ). IfSome o (λ i. i < length rows)) (sym w.after_cut-is) below
      | else-cut-len w ↦ subst (λ (o : Option ℕ). IfSome o (λ i. i < length rows)) (sym w.after_cut-is) tt
    ]
