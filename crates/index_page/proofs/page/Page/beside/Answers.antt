use Rattle.index_page.proofs.BesideLemmas.{both_at}
use Rattle.index_page.proofs.page.Page.beside.Goals as goal

pub returns : goal.returns
returns c = both_at c.args.self.now.rows c.args.place c.position-at.result c.position-at.ensures.row _ _ c.place_before.ensures c.place_after.ensures
