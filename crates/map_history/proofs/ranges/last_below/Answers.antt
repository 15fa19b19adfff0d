use Rattle.map_history.proofs.RangeLemmas.{last_in_range}
use Rattle.map_history.proofs.ranges.last_below.Goals as goal

pub returns : goal.returns
returns c = last_in_range c.args.key.now.tuple c.args.map.now.entries c.range.result c.next_back.new.self c.next_back.result (c.range.ensures.between tt) c.next_back.ensures.steps
