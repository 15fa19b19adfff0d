use Rattle.index_page.specs.declared.head.PageHead.{PageHead}
use Rattle.std.proofs.Common.{◌+◌, ◌≤◌, ◌++◌, sym, ap, ◌∙◌, subst, arith, ◌≡◌, List, []}
use Rattle.index_page.specs.declared.TheConstants.{PAGE_ROOM}
use Rattle.key_tuple.specs.Limits.{IsWithinLimits}
use Rattle.index_page.specs.Rows.{Row, SameRows}
use Rattle.index_page.specs.Page.{PageRows, RowsAscend, IsRowOf, IsNeighbour, IsPageInOrder}
use Rattle.index_page.specs.Loads.{load_of}
use Rattle.list_facts.proofs.Each.{each_weaker}
use Rattle.index_page.proofs.PartLemmas.{suits_too}
use Rattle.index_page.proofs.AppendLemmas.{appended_order, appended_load, rows_within_load}
use Rattle.index_page.proofs.page.Page.move_all.Goals as goal

-- a page with no rows is in order
empty_order : (head : PageHead) (rows : List Row) → rows ≡ [] → IsNeighbour head.prev → IsNeighbour head.next → IsPageInOrder (record { head = head; rows = rows })
empty_order head rows none prev next =
    subst (λ (xs : List Row). IsPageInOrder (record { head = head; rows = xs })) (sym none) (record { ascend = tt; places = tt; each = tt; fits = omega arith; prev = prev; next = next })

pub append-requires-clause-room : goal.append-requires-clause-room
append-requires-clause-room c =
    let load = λ (p : PageRows). load_of p.rows in
    omega (arith, rows_within_load c.to.inside.rows, rows_within_load c.self.inside.rows, c.requires.fits, ap load c.to.view_is, ap load c.self.view_is)

pub invariant_of-to-2 : goal.invariant_of-to-2
invariant_of-to-2 c =
    let level = ap (λ (p : PageRows). p.head.level) c.to.view_is ∙ c.requires.level ∙ sym (ap (λ (p : PageRows). p.head.level) c.self.view_is) in
    let fields = ap (λ (p : PageRows). p.head.fields) c.to.view_is ∙ c.requires.fields ∙ sym (ap (λ (p : PageRows). p.head.fields) c.self.view_is) in
    let suit = each_weaker (IsRowOf c.self.inside.head) (IsRowOf c.to.inside.head) (suits_too c.self.inside.head c.to.inside.head level fields) c.self.inside.rows c.self.invariant.each in
    let rise = subst (λ (p : PageRows). RowsAscend (p.rows ++ c.self.inside.rows)) (sym c.to.view_is) (subst (λ (p : PageRows). RowsAscend (c.args.to.now.rows ++ p.rows)) (sym c.self.view_is) c.requires.ascend) in
    let fits : load_of c.to.inside.rows + load_of c.self.inside.rows ≤ PAGE_ROOM = omega (arith, c.requires.fits, ap (λ (p : PageRows). load_of p.rows) c.to.view_is, ap (λ (p : PageRows). load_of p.rows) c.self.view_is) in
    appended_order c.to.inside.head c.to.inside.rows c.append.new.self c.self.inside.rows c.in_ok-append.ensures.ok c.to.invariant.each suit rise fits c.to.invariant.prev c.to.invariant.next

pub append-requires-clause-keys : goal.append-requires-clause-keys
append-requires-clause-keys c =
    each_weaker (IsRowOf c.self.inside.head) (λ (x : Row). IsWithinLimits x.key) (λ (x : Row) of. of.limits) c.self.inside.rows c.self.invariant.each

pub returns-clause-ok : goal.returns-clause-ok
returns-clause-ok c =
    let ok = c.in_ok-append.ensures.ok in
    record {
      moved = ok.moved;
      gone = c.clear.ensures;
      behind = ok.rows ∙ ap (λ (p : PageRows). p.rows ++ ok.moved) c.to.view_is;
      same = subst (λ (p : PageRows). SameRows p.rows ok.moved) c.self.view_is ok.same;
      head = ap (λ (p : PageRows). p.head) c.self.view_is;
      to_head = ap (λ (p : PageRows). p.head) c.to.view_is;
    }

pub invariant_of-to-inside-2 : goal.invariant_of-to-inside-2
invariant_of-to-inside-2 c = (omega (arith, appended_load c.to.inside.rows c.append.new.self c.self.inside.rows c.in_ok-append.ensures.ok, c.to.inside.charged, c.self.inside.charged), tt)

pub invariant_of-to : goal.invariant_of-to
invariant_of-to c = rw c.in_err-append.ensures.err c.to.invariant

pub invariant_of-self : goal.invariant_of-self
invariant_of-self c = empty_order c.self.inside.head c.clear.new.self c.clear.ensures c.self.invariant.prev c.self.invariant.next

pub invariant_of-self-inside : goal.invariant_of-self-inside
invariant_of-self-inside c = (sym (ap load_of c.clear.ensures), tt)
