use Rattle.forest_law.proofs.HashLawLemmas.{nodes_lead_to_frames}
use Rattle.forest_law.proofs.hash.nodes_lead_to_frames.Goals as goal

pub returns : goal.returns
returns c = nodes_lead_to_frames
