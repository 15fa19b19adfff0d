use Rattle.std.proofs.Common.{sym}
use Rattle.page_directory.specs.Sizes.{group_sizes}
use Rattle.page_directory.proofs.BalanceLemmas.{balanced_few, balanced_many, next_fits}
use Rattle.page_directory.proofs.balancing.balance.Goals as goal

pub owned-count-requires : goal.owned-count-requires
owned-count-requires c =
    let r = c.requires in
    (r.0, r.1, r.2, r.3.page, r.3.inner)

pub move_one-requires-clause-there : goal.move_one-requires-clause-there
move_one-requires-clause-there c =
    let r = c.requires in
    (r.0, r.1, r.2, r.3, sym (c.owned-count.ensures r.0 r.1 r.2 r.3.page r.3.inner))

pub join_next-requires-clause-there : goal.join_next-requires-clause-there
join_next-requires-clause-there c =
    let r = c.requires in
    (r.0, r.1, r.2, r.3, sym (c.owned-count.ensures r.0 r.1 r.2 r.3.page r.3.inner))

pub returns-then-count-gt4 : goal.returns-then-count-gt4
returns-then-count-gt4 c = λ m gs free r.
    let size = sym (c.owned-count.ensures m gs free r.page r.inner) in
    balanced_many c.args.slot (group_sizes gs) size c.if-count-gt4.true (c.move_one.ensures m gs free r size)

pub returns-else-count-gt4 : goal.returns-else-count-gt4
returns-else-count-gt4 c = λ m gs free r.
    let size = sym (c.owned-count.ensures m gs free r.page r.inner) in
    balanced_few c.args.slot (group_sizes gs) size c.if-count-gt4.false (c.join_next.ensures m gs free r size)

pub overflow_add-slot : goal.overflow_add-slot
overflow_add-slot c = record { fits = next_fits c.requires.3 }
