use Rattle.hash_law.proofs.ExampleLemmas.{worked}
use Rattle.hash_law.proofs.examples.worked_rows.Goals as goal

pub returns : goal.returns
returns c = worked
