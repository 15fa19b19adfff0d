use Rattle.tree_tests.proofs.EmptyLemmas.{none_has_page, none_has_table}
use Rattle.tree_tests.proofs.setup.Grove.block_of.Goals as goal

pub page_if-found-requires-clause-others : goal.page_if-found-requires-clause-others
page_if-found-requires-clause-others g c = let grove = c.args.self.now in
    none_has_page grove.pass grove.nothing _

pub page_if-found-requires-clause-tables : goal.page_if-found-requires-clause-tables
page_if-found-requires-clause-tables g c = let grove = c.args.self.now in
    none_has_table grove.space grove.pass grove.forest grove.own grove.nothing
