use Rattle.key_tuple.proofs.TupleLemmas.{not_below_cut, above_cut}
use Rattle.key_tuple.proofs.laws.tuples_cut.Goals as goal

pub returns : goal.returns
returns c = record { before_meeting = not_below_cut; after_meeting = above_cut }
