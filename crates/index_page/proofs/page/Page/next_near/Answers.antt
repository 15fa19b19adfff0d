use Rattle.index_page.proofs.BesideLemmas.{next_at}
use Rattle.index_page.proofs.page.Page.next_near.Goals as goal

pub returns : goal.returns
returns c = next_at c.args.self.now.rows c.args.place c.position_near.result c.position_near.ensures.row _ c.place_after.ensures
