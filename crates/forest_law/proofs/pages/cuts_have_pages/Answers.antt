use Rattle.forest_law.proofs.FramePageLemmas.{cuts_have_pages}
use Rattle.forest_law.proofs.pages.cuts_have_pages.Goals as goal

pub returns : goal.returns
returns c = cuts_have_pages
