use Rattle.key_tuple.proofs.PlaceLemmas.{before-itself, before-trans, before-tied}
use Rattle.key_tuple.proofs.laws.places_are_ordered.Goals as goal

pub returns : goal.returns
returns c = record { itself = before-itself; trans = before-trans; tied = before-tied }
