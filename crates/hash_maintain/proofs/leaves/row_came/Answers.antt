use Rattle.std.proofs.Common.{length, sym, subst}
use Rattle.forest_law.specs.declared.objects.Frame.{Frame}
use Rattle.hash_upkeep.specs.Hashing.{row_entries}
use Rattle.hash_upkeep.specs.Upkeep.{IsRowAnswer, LacksIfDropped, upkeep_of}
use Rattle.index_page.specs.Changes.{rows_without}
use Rattle.hash_maintain.specs.Leaves.{KeepsUpSo, without_row}
use Rattle.hash_maintain.proofs.LeafLemmas.{rows_of_page, came_exact, can_hash, exact_nodes, row_there, page_without_is}
use Rattle.hash_maintain.proofs.leaves.row_came.Goals as goal

pub leaf_page-requires : goal.leaf_page-requires
leaf_page-requires c = (c.requires.row.page, c.requires.row.page_is)

pub on_insert-answer-requires-clause-row : goal.on_insert-answer-requires-clause-row
on_insert-answer-requires-clause-row c = row_there c.args.frame.now c.args.place c.leaf_page.result.now
    c.leaf_page.ensures c.requires.row

pub on_insert-answer-requires-clause-hash : goal.on_insert-answer-requires-clause-hash
on_insert-answer-requires-clause-hash c = can_hash c.args.how.now c.args.frame.now
    c.leaf_page.result.now c.leaf_page.ensures
    (c.requires.tidy.built c.args.how.now.params c.requires.hashed.params) c.requires.bits

pub on_insert-answer-requires-clause-exact : goal.on_insert-answer-requires-clause-exact
on_insert-answer-requires-clause-exact c = let page = c.leaf_page.result.now in
    exact_nodes c.entries_are_owed.ensures c.args.how.now c.args.part.now
    (without_row c.args.place c.args.frame.now)
    (record page { rows = rows_without c.args.place page.rows })
    (page_without_is c.args.frame.now c.args.place page c.leaf_page.ensures)
    (record { index = c.requires.hashed.index; params = c.requires.hashed.params })
    c.requires.exact

pub returns-clause-answer : goal.returns-clause-answer
returns-clause-answer c = λ page paged. rows_of_page
    (λ rows. IsRowAnswer c.args.how.now rows c.args.place
    (λ brought driven. upkeep_of c.args.part.now.spare driven brought) c.on_insert-answer.result)
    c.args.frame.now c.leaf_page.result.now page c.leaf_page.ensures paged
    c.on_insert-answer.ensures.answer

pub returns-clause-room : goal.returns-clause-room
returns-clause-room c = λ page paged. rows_of_page
    (λ rows. LacksIfDropped c.on_insert-answer.result c.on_insert-answer.new.part.spare
    (length (row_entries c.args.how.now rows))) c.args.frame.now c.leaf_page.result.now page
    c.leaf_page.ensures paged c.on_insert-answer.ensures.room

pub returns-clause-part : goal.returns-clause-part
returns-clause-part c = subst
    (λ (g : Frame). KeepsUpSo c.args.how.now g c.args.part.now c.on_insert-answer.new.part)
    (sym c.unhash_if_dropped.ensures)
    (came_exact c.entries_are_owed.ensures c.args.how.now c.args.frame.now c.leaf_page.result.now
    c.leaf_page.ensures c.requires.hashed c.args.part.now c.on_insert-answer.new.part
    c.on_insert-answer.result c.on_insert-answer.ensures.part)
