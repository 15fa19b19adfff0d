use Rattle.std.proofs.Common.{◌∙◌}
use Rattle.byte_page.proofs.MovingLemmas.{place_told}
use Rattle.byte_page.proofs.page.BytePage.last_or_infimum.Goals as goal

pub returns : goal.returns
returns c = c.unwrap_or.ensures ∙ place_told c.args.self.now.page.rows c.args.self.now.page.rows c.last.result c.last.ensures
