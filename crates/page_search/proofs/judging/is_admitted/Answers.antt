use Rattle.std.proofs.Common.{rules}
use Rattle.page_search.proofs.judging.is_admitted.Goals as goal

pub returns-in-Ge : goal.returns-in-Ge
returns-in-Ge c = search rules
