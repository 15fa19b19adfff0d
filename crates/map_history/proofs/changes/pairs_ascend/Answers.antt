use Rattle.map_history.proofs.PairsLemmas.{rows-ascend}
use Rattle.map_history.proofs.changes.pairs_ascend.Goals as goal

pub returns : goal.returns
returns c = rows-ascend c.args.map.now.entries c.len-count.ensures.ordered
