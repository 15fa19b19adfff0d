use Rattle.std.proofs.Common.{◌∙◌}
use Rattle.buffer_pool.proofs.PutLemmas.{read_image}
use Rattle.buffer_pool.proofs.turning.put_page.Goals as goal

pub returns-clause-had : goal.returns-clause-had
returns-clause-had c = c.replace.ensures.value
    ∙ (c.index_mut-2.ensures.value
    ∙ read_image c.args.pool.now.images.items c.args.number c.index_mut-2.result.now
    c.requires.image)
