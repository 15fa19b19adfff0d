use Rattle.forest_law.proofs.FramePageLemmas.{frames_tell_pages}
use Rattle.forest_law.proofs.pages.frames_tell_pages.Goals as goal

pub returns : goal.returns
returns c = frames_tell_pages
