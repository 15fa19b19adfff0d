use Rattle.std.proofs.Common.{ap, ◌∙◌, arith}
use Rattle.latch_space.specs.Passes.{view}
use Rattle.tree_descent.proofs.WayLemmas.{root_live}
use Rattle.tree_tests.proofs.EmptyLemmas.{none_has_page, none_has_table}
use Rattle.tree_tests.proofs.setup.Grove.root_block.Goals as goal

pub page_in-block-requires-clause-live : goal.page_in-block-requires-clause-live
page_in-block-requires-clause-live g c = let grove = c.args.self.now in
    let same = ap (λ t. t.shape.indexes) grove.own.1 ∙ grove.two in
    root_live (view grove.pass) 0 (omega (arith, same))

pub page_in-block-requires-clause-others : goal.page_in-block-requires-clause-others
page_in-block-requires-clause-others g c = let grove = c.args.self.now in
    none_has_page grove.pass grove.nothing 0

pub page_in-block-requires-clause-tables : goal.page_in-block-requires-clause-tables
page_in-block-requires-clause-tables g c = let grove = c.args.self.now in
    none_has_table grove.space grove.pass grove.forest grove.own grove.nothing
