use Rattle.script.proofs.lane.read_parts.Goals as goal

pub returns-in_ok-key-in-Set : goal.returns-in_ok-key-in-Set
returns-in_ok-key-in-Set c = rw (c.in-Set.is, c.in_ok-key-in-Set.ensures)
