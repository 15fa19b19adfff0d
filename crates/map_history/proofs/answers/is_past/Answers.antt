use Rattle.std.proofs.Common.{rules}
use Rattle.key_tuple.specs.KeyPlace.{not_below, above}
use Rattle.map_history.proofs.answers.is_past.Goals as goal

pub returns-in-Ge : goal.returns-in-Ge
unfolding not_below above
returns-in-Ge c = search rules

pub returns-in-G : goal.returns-in-G
unfolding not_below above
returns-in-G c = search rules
