use Rattle.std.proofs.Common.{IsSome, refl, sym, subst, arith}
use Rattle.byte_page.proofs.MovingLemmas.{begins, may_append, goes_on, ends_none, ends_all}
use Rattle.byte_page.proofs.page.BytePage.append_rows.Goals as goal

pub loop-init : goal.loop-init
loop-init c = λ left others can. begins c.last_or_infimum-last.result can c.last_or_infimum-last.ensures

pub append-last-requires : goal.append-last-requires
append-last-requires c =
    let r = c.requires in
    may_append r.2 (c.loop.invariant r.0 r.1 r.2) c.in-Some.is

pub next-next-requires : goal.next-next-requires
next-next-requires c =
    let r = c.requires in
    let can = may_append r.2 (c.loop.invariant r.0 r.1 r.2) c.in-Some.is in
    subst (λ o. IsSome o) (sym can.there) refl

pub loop-preserved : goal.loop-preserved
loop-preserved c = λ left others can.
    goes_on c.next-next.result c.append-last.result can (c.loop.invariant left others can) c.in-Some.is c.is_in_order.ensures c.append-last.ensures c.next-next.ensures

pub returns-in-None : goal.returns-in-None
returns-in-None c = λ left others can. ends_none (c.loop.invariant left others can) c.in-None.is

pub returns : goal.returns
returns c = λ left others can. ends_all can (c.loop.invariant left others can) (omega (arith, c.count-end.ensures))
