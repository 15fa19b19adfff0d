use Rattle.hash_maintain.proofs.LeafLemmas.{can_hash, exact_nodes, unhashed_exact}
use Rattle.hash_maintain.proofs.leaves.unhash.Goals as goal

pub leaf_page-requires : goal.leaf_page-requires
leaf_page-requires c = let leaf = c.requires.tidy.leaf c.args.how.now.index c.requires.hashed.index in
    (leaf.page, leaf.page_is)

pub drop_block-requires-clause-hash : goal.drop_block-requires-clause-hash
drop_block-requires-clause-hash c = can_hash c.args.how.now c.args.frame.now c.leaf_page.result.now
    c.leaf_page.ensures (c.requires.tidy.built c.args.how.now.params c.requires.hashed.params)
    c.requires.bits

pub drop_block-requires-clause-covered : goal.drop_block-requires-clause-covered
drop_block-requires-clause-covered c =
    (c.exact_nodes_are_covered.ensures c.args.how.now c.args.part.now.nodes).here
    c.leaf_page.result.now.rows
    (exact_nodes c.entries_are_owed.ensures c.args.how.now c.args.part.now c.args.frame.now
    c.leaf_page.result.now c.leaf_page.ensures c.requires.hashed c.requires.exact)

pub returns-clause-part : goal.returns-clause-part
returns-clause-part c = unhashed_exact c.args.how.now c.args.frame.now c.args.part.now
    c.drop_block.new.part c.drop_block.ensures
