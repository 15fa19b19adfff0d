use Rattle.hash_maintain.proofs.LeafLemmas.{can_hash, exact_nodes, row_there}
use Rattle.hash_maintain.proofs.leaves.row_goes.Goals as goal

pub leaf_page-requires : goal.leaf_page-requires
leaf_page-requires c = (c.requires.row.page, c.requires.row.page_is)

pub on_delete-answer-requires-clause-row : goal.on_delete-answer-requires-clause-row
on_delete-answer-requires-clause-row c = row_there c.args.frame.now c.args.place c.leaf_page.result.now
    c.leaf_page.ensures c.requires.row

pub on_delete-answer-requires-clause-hash : goal.on_delete-answer-requires-clause-hash
on_delete-answer-requires-clause-hash c = can_hash c.args.how.now c.args.frame.now
    c.leaf_page.result.now c.leaf_page.ensures
    (c.requires.tidy.built c.args.how.now.params c.requires.hashed.params) c.requires.bits

pub on_delete-answer-requires-clause-exact : goal.on_delete-answer-requires-clause-exact
on_delete-answer-requires-clause-exact c =
    exact_nodes c.entries_are_owed.ensures c.args.how.now c.args.part.now c.args.frame.now
    c.leaf_page.result.now c.leaf_page.ensures c.requires.hashed c.requires.exact
