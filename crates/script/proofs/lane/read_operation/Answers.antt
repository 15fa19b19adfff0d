use Rattle.script.proofs.lane.read_operation.Goals as goal

pub field_count-count-requires : goal.field_count-count-requires
field_count-count-requires c = c.in_ok-index.ensures.known
