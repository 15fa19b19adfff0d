use Rattle.index_page.proofs.KeyLemmas.{lacks_key}
use Rattle.byte_page.specs.Searching.{spot_with}
use Rattle.byte_page.proofs.SearchLemmas.{spot_below}
use Rattle.byte_page.proofs.page.BytePage.insert_at.Goals as goal

pub insert_behind-requires-clause-before : goal.insert_behind-requires-clause-before
insert_behind-requires-clause-before g c =
    spot_below (g.A.Fields.fields_of c.args.key.now) c.args.self.now.page.rows (spot_with c.args.spot.now c.requires.spot.0) c.unwrap_or.result c.requires.spot.1 c.unwrap_or.ensures

pub insert_behind-requires-clause-absent : goal.insert_behind-requires-clause-absent
insert_behind-requires-clause-absent g c =
    lacks_key c.args.self.now.page (g.A.Fields.fields_of c.args.key.now) (spot_with c.args.spot.now c.requires.spot.0) c.is_in_order.ensures c.requires.fields c.requires.spot.1 c.requires.absent
