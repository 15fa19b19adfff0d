use Rattle.index_page.proofs.KeyLemmas.{lacks_key}
use Rattle.index_page.proofs.SpotLemmas.{spot_cuts}
use Rattle.index_page.proofs.page.Page.insert_at.Goals as goal

pub enter-requires-clause-cut : goal.enter-requires-clause-cut
enter-requires-clause-cut g c = spot_cuts _ _ _ c.args.spot.now c.requires.spot

pub enter-requires-clause-absent : goal.enter-requires-clause-absent
enter-requires-clause-absent g c =
    lacks_key c.args.self.now (g.A.Fields.fields_of c.args.key.now) c.args.spot.now c.is_in_order.ensures c.requires.fields c.requires.spot c.requires.absent
