use Rattle.std.proofs.Common.{◌∷◌, [], sym, arith}
use Rattle.byte_page.specs.Searching.{spot_with}
use Rattle.page_tests.proofs.dumps.offer.Goals as goal

pub insert-requires-clause-absent : goal.insert-requires-clause-absent
insert-requires-clause-absent g c =
    let f = c.search-spot.ensures in
    (c.spots_tell_keys.ensures c.args.page.now.page ((c.args.byte ∷ []) ∷ []) (spot_with c.search-spot.result f.0) c.is_in_order.ensures (sym c.requires.fields) (omega arith) f.1).absent c.if-spot-eq1.false
