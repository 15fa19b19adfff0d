use Rattle.byte_page.proofs.TailLemmas.{last_there, pops}
use Rattle.byte_page.proofs.page.BytePage.pop.Goals as goal

pub delete-requires : goal.delete-requires
delete-requires c = last_there c.args.self.now.page.rows c.last_or_infimum-last.result c.requires c.is_in_order.ensures.places c.last_or_infimum-last.ensures

pub returns : goal.returns
returns c = pops c.args.self.now.page c.delete.new.self.page c.last_or_infimum-last.result c.requires c.is_in_order.ensures.places c.last_or_infimum-last.ensures c.delete.ensures.rows
