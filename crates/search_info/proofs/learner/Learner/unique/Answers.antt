use Rattle.std.proofs.Common.{refl}
use Rattle.atomic_table.proofs.Lists.{at_index}
use Rattle.search_info.proofs.learner.Learner.unique.Goals as goal

pub returns : goal.returns
returns c = (c.index.result.now, at_index _ _ _ c.requires c.index.ensures, refl)
