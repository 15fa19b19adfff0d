use Rattle.hash_tests.proofs.worked.drops.Goals as goal

pub drop_block-requires-clause-covered : goal.drop_block-requires-clause-covered
drop_block-requires-clause-covered g c =
    (c.exact_nodes_are_covered.ensures c.hashing-how.result c.build_first.new.part.nodes).here
    c.leaf_of-page.result.rows c.build_first.ensures
