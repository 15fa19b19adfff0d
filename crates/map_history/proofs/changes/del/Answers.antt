use Rattle.std.proofs.Common.{◌∙◌, ap}
use Rattle.map_history.proofs.PairsLemmas.{rows_of}
use Rattle.map_history.proofs.ApplyLemmas.{after_del}
use Rattle.map_history.proofs.changes.del.Goals as goal

pub returns : goal.returns
returns c = ap rows_of c.remove.ensures.entries ∙ after_del c.args.key.now c.args.map.now.entries c.pairs_ascend.ensures
