use Rattle.hash_law.proofs.BlockLemmas.{nodes_lead}
use Rattle.hash_law.proofs.blocks.nodes_lead_to_rows.Goals as goal

pub returns : goal.returns
returns c = nodes_lead
