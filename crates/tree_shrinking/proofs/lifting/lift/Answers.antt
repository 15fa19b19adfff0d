use Rattle.buffer_pool.proofs.SpaceLemmas.{objects_of}
use Rattle.buffer_pool.proofs.AgainLemmas.{passes_both}
use Rattle.tree_shrinking.proofs.InTreesLemmas.{lift_inside}
use Rattle.tree_shrinking.proofs.TableLemmas.{tables_sunk}
use Rattle.tree_shrinking.proofs.lifting.lift.Goals as goal

pub sink_hashed-requires-clause-inside : goal.sink_hashed-requires-clause-inside
sink_hashed-requires-clause-inside g c = let p = c.args.pass.now in
    lift_inside p c.requires.held
    (objects_of c.args.space.now p c.requires.own.0 c.requires.own.1) c.requires.frames

pub sink_hashed-requires-clause-parts : goal.sink_hashed-requires-clause-parts
sink_hashed-requires-clause-parts g c = c.requires.tables.parts

pub free_page-requires-clause-tables : goal.free_page-requires-clause-tables
free_page-requires-clause-tables g c =
    tables_sunk c.requires.index c.in_ok-sink_hashed.ensures.ok c.requires.tables

pub returns-clause-own : goal.returns-clause-own
returns-clause-own g c = (
  passes_both c.args.pass.now c.sink_hashed.new.pass c.free_page.new.pass
      c.sink_hashed.ensures.own.0 c.free_page.ensures.own.0,
  c.free_page.ensures.own.1,
)
