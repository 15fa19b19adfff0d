use Rattle.std.proofs.Common.{◌≡◌, length, sym, ap, ◌∙◌, arith}
use Rattle.index_page.specs.declared.head.PageHead.{PageHead}
use Rattle.page_tests.proofs.rows.put_child.Goals as goal

pub insert-requires-clause-absent : goal.insert-requires-clause-absent
insert-requires-clause-absent g c =
    let long : length c.args.key.now.tuple ≡ c.args.page.now.head.fields = omega (arith, c.count.ensures, c.if-count-head.false, ap (λ (h : PageHead). h.fields) c.head-head.ensures) in
    (c.spots_tell_keys.ensures c.args.page.now c.args.key.now.tuple c.search-spot.result c.is_in_order.ensures long c.tuple.ensures.some c.search-spot.ensures).absent (λ e. c.if-spot-count.false (e ∙ sym c.count-2.ensures))
