use Rattle.map_history.proofs.SearchLemmas.{first-found, first-is, first-none, last-found, last-is, last-none}
use Rattle.map_history.proofs.laws.searches_find.Goals as goal

pub returns : goal.returns
returns c = record { first = first-found; first_is = first-is; no_first = first-none; last = last-found; last_is = last-is; no_last = last-none }
