use Rattle.forest_law.proofs.FramePageLemmas.{roots_have_cuts}
use Rattle.forest_law.proofs.pages.roots_have_cuts.Goals as goal

pub returns : goal.returns
returns c = roots_have_cuts
