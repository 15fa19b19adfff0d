use Rattle.forest_law.proofs.PoolStepLemmas.{pages_come_and_go}
use Rattle.forest_law.proofs.steps.pages_come_and_go.Goals as goal

pub returns : goal.returns
returns c = pages_come_and_go
