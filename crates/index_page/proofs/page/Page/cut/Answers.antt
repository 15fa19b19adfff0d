use Rattle.index_page.proofs.AppendLemmas.{rows_within_load}
use Rattle.std.proofs.lemmas.List.{drop_all}
use Rattle.std.proofs.Common.{suc, add-one, sym, ap, ◌∙◌, subst, arith, take, drop, List, length}
use Rattle.key_tuple.specs.KeyPlace.{At, cut_of}
use Rattle.index_page.specs.Rows.{Row}
use Rattle.index_page.specs.Page.{PageRows, IsRowOf}
use Rattle.index_page.specs.Search.{AllOut, AllIn}
use Rattle.index_page.proofs.CutLemmas.{mode_cuts, in_from, out_upto}
use Rattle.list_facts.proofs.Each.{each_get}
use Rattle.index_page.proofs.page.Page.cut.Goals as goal

pub loop-low-preserved-then-is_past : goal.loop-low-preserved-then-is_past
loop-low-preserved-then-is_past g c =
    let tuple = g.A.Fields.fields_of c.args.tuple.now in
    let p = cut_of c.args.mode tuple in
    let middle = c.next_look-middle.result in
    let admitted = in_from p (mode_cuts c.args.mode tuple) c.self.inside.rows middle _ c.self.invariant.ascend c.stored.ensures (sym {b = p (At c.stored.result.1.key)} c.is_past.ensures ∙ c.if-is_past.true) in
    record {
      ordered = omega (arith, c.next_look-middle.ensures.from, c.next_look-middle.ensures.below);
      within = omega (arith, c.next_look-middle.ensures.from, c.next_look-middle.ensures.below, c.loop-low.invariant.within);
      out = c.loop-low.invariant.out;
      past = subst (λ (rows : List Row). AllIn p (drop middle rows)) (ap (λ (q : PageRows). q.rows) c.self.view_is) admitted;
    }

pub loop-low-preserved : goal.loop-low-preserved
loop-low-preserved g c =
    let tuple = g.A.Fields.fields_of c.args.tuple.now in
    let p = cut_of c.args.mode tuple in
    let middle = c.next_look-middle.result in
    let left_out = out_upto p (mode_cuts c.args.mode tuple) c.self.inside.rows middle _ c.self.invariant.ascend c.stored.ensures (sym {b = p (At c.stored.result.1.key)} c.is_past.ensures ∙ c.if-is_past.false) in
    record {
      ordered = omega (arith, c.next_look-middle.ensures.from, c.next_look-middle.ensures.below);
      within = c.loop-low.invariant.within;
      out = rw add-one (subst (λ (rows : List Row). AllOut p (take (suc middle) rows)) (ap (λ (q : PageRows). q.rows) c.self.view_is) left_out);
      past = c.loop-low.invariant.past;
    }

pub is_past-requires : goal.is_past-requires
is_past-requires g c =
    omega (arith, c.requires, (each_get (IsRowOf c.self.inside.head) c.self.inside.rows c.next_look-middle.result _ c.self.invariant.each c.stored.ensures).fields, ap (λ (p : PageRows). p.head.fields) c.self.view_is)

pub loop-low-init : goal.loop-low-init
loop-low-init g c =
    let rows = c.args.self.now.rows in
    let all = ap (λ (p : PageRows). length p.rows) c.self.view_is in
    record {
      ordered = omega arith;
      within = omega (arith, c.len-high.ensures, all);
      out = tt;
      past = subst (AllIn (cut_of c.args.mode (g.A.Fields.fields_of c.args.tuple.now))) (sym (drop_all c.len-high.result rows (omega (arith, c.len-high.ensures, all)))) tt;
    }

pub overflow_add-low : goal.overflow_add-low
overflow_add-low g c =
    omega (arith, c.next_look-middle.ensures.below, c.loop-low.invariant.within, ap (λ (p : PageRows). length p.rows) c.self.view_is, rows_within_load c.self.inside.rows, c.self.invariant.fits)
