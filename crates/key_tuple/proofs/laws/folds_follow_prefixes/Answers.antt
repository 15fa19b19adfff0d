use Rattle.key_tuple.proofs.FoldLemmas.{same_prefix, fold_below, lowest_bit}
use Rattle.key_tuple.proofs.laws.folds_follow_prefixes.Goals as goal

pub returns : goal.returns
returns c = record { same_prefix = same_prefix; below = fold_below; lowest_bit = lowest_bit }
