use Rattle.forest_law.proofs.OnePutLemmas.{one_put_is_lawful}
use Rattle.forest_law.proofs.steps.one_put_is_lawful.Goals as goal

pub returns : goal.returns
returns c = one_put_is_lawful
