use Rattle.forest_law.proofs.ImageLemmas.{images_tell_pages}
use Rattle.forest_law.proofs.pages.images_tell_pages.Goals as goal

pub returns : goal.returns
returns c = images_tell_pages
