use Rattle.std.proofs.Common.{[], arith, sym, ap, subst}
use Rattle.index_page.proofs.AppendLemmas.{appended_order, appended_load, rows_within_load}
use Rattle.index_page.specs.Rows.{SameRows, Row}
use Rattle.index_page.specs.Page.{PageRows, IsRowOf}
use Rattle.list_facts.proofs.Each.{each_weaker}
use Rattle.key_tuple.specs.Limits.{IsWithinLimits}
use Rattle.index_page.proofs.page.Page.reorganise.Goals as goal

pub invariant_of-self : goal.invariant_of-self
invariant_of-self c =
    appended_order c.self.inside.head [] c.in_ok-rows.rows c.self.inside.rows c.in_ok-rows.ensures tt c.self.invariant.each c.self.invariant.ascend (omega (arith, c.self.invariant.fits)) c.self.invariant.prev c.self.invariant.next

pub tail-requires-clause-room : goal.tail-requires-clause-room
tail-requires-clause-room c = omega (arith, rows_within_load c.self.inside.rows, c.self.invariant.fits)

pub invariant_of-self-inside : goal.invariant_of-self-inside
invariant_of-self-inside c =
    (omega (arith, appended_load [] c.in_ok-rows.rows c.self.inside.rows c.in_ok-rows.ensures, c.self.inside.charged), tt)

pub returns-clause-ok : goal.returns-clause-ok
returns-clause-ok c =
    let all = c.in_ok-rows.ensures in
    record {
      same = subst (λ (p : PageRows). SameRows p.rows c.in_ok-rows.rows) c.self.view_is (subst (SameRows c.self.inside.rows) (sym all.rows) all.same);
      head = ap (λ (p : PageRows). p.head) c.self.view_is;
    }

pub tail-requires-clause-keys : goal.tail-requires-clause-keys
tail-requires-clause-keys c =
    each_weaker (IsRowOf c.self.inside.head) (λ (x : Row). IsWithinLimits x.key) (λ (x : Row) of. of.limits) c.self.inside.rows c.self.invariant.each
