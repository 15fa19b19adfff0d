use Rattle.std.proofs.Common.{rules}
use Rattle.std.proofs.lemmas.List.Sorted.{IsNonDecreasingBy-from_sort_by_key}
use Rattle.change_log.specs.declared.change.LaneChange.{LaneChange}
use Rattle.change_log.proofs.SortLemmas.{seen_sorted}
use Rattle.change_log.proofs.merging.sort.Goals as goal

pub returns : goal.returns
returns c = seen_sorted c.args.list.now.items c.sort_by_key.new.self.items c.in_ok-sort_by_key.ensures.permutation
    (IsNonDecreasingBy-from_sort_by_key (λ (change : LaneChange). change.number) _ c.in_ok-sort_by_key.ensures.sorted (λ a r q k. search rules))
