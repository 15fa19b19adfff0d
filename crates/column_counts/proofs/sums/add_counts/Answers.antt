use Rattle.std.proofs.Common.{◌+◌, ◌<◌, ℕ, length, rules}
use Rattle.column_counts.proofs.StepLemmas.{join_more}
use Rattle.column_counts.proofs.sums.add_counts.Goals as goal

pub loop-place-preserved : goal.loop-place-preserved
loop-place-preserved c =
    let below : c.loop-place.place < length c.args.sum.now.numbers = search rules in
    let below' : c.loop-place.place < length c.args.other.now.numbers = search rules in
    join_more (λ (a b : ℕ). a + b) c.args.sum.now.numbers c.args.other.now.numbers c.loop-place.sum.numbers c.loop-place.place 0 0 c.in_ok-sum.field-0 below below' c.loop-place.invariant c.in_ok-sum.ensures
