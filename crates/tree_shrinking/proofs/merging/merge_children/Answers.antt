use Rattle.buffer_pool.proofs.AgainLemmas.{passes_both}
use Rattle.tree_shrinking.proofs.TableLemmas.{tables_merged}
use Rattle.tree_shrinking.proofs.merging.merge_children.Goals as goal

pub free_page-requires-clause-tables : goal.free_page-requires-clause-tables
free_page-requires-clause-tables g c =
    tables_merged c.in_ok-merge_pair.ensures.ok c.requires.tables

pub returns-clause-own : goal.returns-clause-own
returns-clause-own g c = (
  passes_both c.args.pass.now c.merge_pair.new.pass c.free_page.new.pass c.merge_pair.ensures.own.0
      c.free_page.ensures.own.0,
  c.free_page.ensures.own.1,
)
