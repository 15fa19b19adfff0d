use Rattle.hash_law.proofs.ExampleLemmas.{mirrored}
use Rattle.hash_law.proofs.examples.mirrored_rows.Goals as goal

pub returns : goal.returns
returns c = mirrored
