use Rattle.forest_law.proofs.FramePageLemmas.{frames_have_one_page}
use Rattle.forest_law.proofs.pages.frames_have_one_page.Goals as goal

pub returns : goal.returns
returns c = frames_have_one_page
