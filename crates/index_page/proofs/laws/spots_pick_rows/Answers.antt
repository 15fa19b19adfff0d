use Rattle.index_page.proofs.PickLemmas.{spots_pick_rows}
use Rattle.index_page.proofs.laws.spots_pick_rows.Goals as goal

pub returns : goal.returns
returns c = spots_pick_rows
