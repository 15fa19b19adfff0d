use Rattle.hash_upkeep.specs.Walk.{entries_ahead}
use Rattle.hash_upkeep.proofs.FoldLemmas.{entries_fall}
use Rattle.hash_upkeep.proofs.entering.enter_all.Goals as goal

pub loop-node-smaller : goal.loop-node-smaller
loop-node-smaller c =
    entries_fall (entries_ahead c.args.how.now c.args.page.now.rows c.loop-node.walk) c.in-Some.node
    (entries_ahead c.args.how.now c.args.page.now.rows c.next_entry.new.self)
    c.in-Some.ensures.some
