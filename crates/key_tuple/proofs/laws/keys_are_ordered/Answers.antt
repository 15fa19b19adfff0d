use Rattle.key_tuple.proofs.PlaceLemmas.{total, key_exact}
use Rattle.key_tuple.proofs.laws.keys_are_ordered.Goals as goal

pub returns : goal.returns
returns c = record { total = total; exact = key_exact }
