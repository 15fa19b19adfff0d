use Rattle.key_tuple.specs.declared.mode.Mode.TheVariants as mode
use Rattle.tree_neighbours.proofs.PairLemmas.{leaf_page}
use Rattle.tree_cursor.proofs.DescentLemmas.{may_store_end}
use Rattle.engine_tests.proofs.EmptyLemmas.{none_has_frame, none_has_table}
use Rattle.engine_tests.proofs.restored.store_end.Goals as goal

pub descend-leaf-requires-clause-frames : goal.descend-leaf-requires-clause-frames
descend-leaf-requires-clause-frames g c = let site = c.args.site.now in
    none_has_frame site.space c.args.pass.now site.forest c.requires.own c.requires.nothing

pub descend-leaf-requires-clause-tables : goal.descend-leaf-requires-clause-tables
descend-leaf-requires-clause-tables g c = let site = c.args.site.now in
    none_has_table site.space c.args.pass.now site.forest c.requires.own c.requires.nothing

pub has_high-requires-clause-leaf : goal.has_high-requires-clause-leaf
has_high-requires-clause-leaf g c = leaf_page c.args.pass.now c.descend-leaf.new.pass 0 mode.Ge
    c.args.key.now.tuple c.descend-leaf.result c.descend-leaf.ensures.went

pub store_on-requires-clause-leaf : goal.store_on-requires-clause-leaf
store_on-requires-clause-leaf g c = leaf_page c.args.pass.now c.descend-leaf.new.pass 0 mode.Ge
    c.args.key.now.tuple c.descend-leaf.result c.descend-leaf.ensures.went

pub store_on-requires-clause-may : goal.store_on-requires-clause-may
store_on-requires-clause-may g c = let p = c.args.pass.now in let q = c.descend-leaf.new.pass in
    let key = c.args.key.now.tuple in let leaf = c.descend-leaf.result in
    let went = c.descend-leaf.ensures.went in
    may_store_end p q 0 mode.Ge key leaf went
    (c.has_high.ensures (leaf_page p q 0 mode.Ge key leaf went) c.ensure.ensures)
