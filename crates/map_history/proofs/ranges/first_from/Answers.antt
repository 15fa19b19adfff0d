use Rattle.map_history.proofs.RangeLemmas.{first_in_range}
use Rattle.map_history.proofs.ranges.first_from.Goals as goal

pub returns : goal.returns
returns c = first_in_range c.args.key.now.tuple c.args.map.now.entries c.range.result c.next.new.self c.next.result (c.range.ensures.between tt) c.next.ensures.steps
