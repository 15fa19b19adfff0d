use Rattle.index_page.proofs.BesideLemmas.{prev_at}
use Rattle.index_page.proofs.page.Page.prev.Goals as goal

pub returns : goal.returns
returns c = prev_at c.args.self.now.rows c.args.place c.position.result c.position.ensures.row _ c.place_before.ensures
