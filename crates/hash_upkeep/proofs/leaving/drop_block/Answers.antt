use Rattle.hash_upkeep.specs.Hashing.{row_nodes}
use Rattle.hash_upkeep.proofs.EmptyLemmas.{empties}
use Rattle.hash_upkeep.proofs.leaving.drop_block.Goals as goal

pub returns : goal.returns
returns c = let how = c.args.how.now in
    empties how.block (row_nodes how c.args.page.now.rows) c.args.part.now c.leave_rows.new.part
    c.requires.covered c.leave_rows.ensures
