use Rattle.pair_world.proofs.Steps.{opened_most, opened_pair}
use Rattle.std.proofs.Common.{[], refl, ap, length}
use Rattle.pair_world.proofs.calls.open_pair.Goals as goal

pub returns-clause-pair : goal.returns-clause-pair
returns-clause-pair c = let e = c.open.ensures in opened_pair c.open.result _ (ap length c.in-Ok.ensures.items) refl c.requires.few e.terms e.own e.pass

pub returns-clause-most : goal.returns-clause-most
returns-clause-most c = opened_most c.open.result _ c.open.ensures.terms

pub open-requires-clause-lawful : goal.open-requires-clause-lawful
open-requires-clause-lawful c = (0, 0, [], c.in-Ok.ensures.items, refl, refl)
