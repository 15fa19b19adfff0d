use Rattle.change_log.specs.Merge.{note_lists}
use Rattle.change_log.proofs.SortLemmas.{are_merges}
use Rattle.change_log.proofs.merging.merge.Goals as goal

pub returns : goal.returns
returns c = are_merges c.args.indexes c.args.logs.now (note_lists c.in_ok-lists.lists.items) (note_lists c.sort_each.new.lists.items) c.in_ok-lists.ensures c.in_ok-sort_each.ensures
