use Rattle.std.proofs.Common.{◌∙◌}
use Rattle.buffer_pool.proofs.PutLemmas.{read_place}
use Rattle.buffer_pool.proofs.looking.place_of.Goals as goal

pub returns : goal.returns
returns c = c.index.ensures
    ∙ read_place c.args.pool.now.place.items c.args.page c.index.result.now c.requires
