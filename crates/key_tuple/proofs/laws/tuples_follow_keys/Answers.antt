use Rattle.key_tuple.proofs.TupleLemmas.{stays_above, was_below, meets_between, tuple_cmp-whole}
use Rattle.key_tuple.proofs.laws.tuples_follow_keys.Goals as goal

pub returns : goal.returns
returns c = record { above = stays_above; below = was_below; between = meets_between; whole = tuple_cmp-whole }
