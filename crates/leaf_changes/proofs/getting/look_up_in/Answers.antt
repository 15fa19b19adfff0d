use Rattle.leaf_changes.proofs.getting.look_up_in.Goals as goal

pub read_row_in-requires-clause-row : goal.read_row_in-requires-clause-row
read_row_in-requires-clause-row c = c.in-Some.ensures
