use Rattle.std.proofs.Common.{append-nil, ◌∙◌}
use Rattle.hash_upkeep.proofs.change.change_between.Goals as goal

pub returns-clause-driven : goal.returns-clause-driven
returns-clause-driven c = append-nil _ ∙ c.newly_led-2.ensures
