use Rattle.std.proofs.Common.{subst}
use Rattle.index_page.specs.Rows.{IsAt}
use Rattle.index_page.proofs.BesideLemmas.{first_is}
use Rattle.index_page.proofs.page.Page.first.Goals as goal

pub returns : goal.returns
returns c = subst (IsAt c.args.self.now.rows c.place_after.result) (first_is c.args.self.now.rows) c.place_after.ensures
