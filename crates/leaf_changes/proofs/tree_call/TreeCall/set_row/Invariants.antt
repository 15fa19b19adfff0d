use Rattle.std.proofs.Common.{length, ◌==◌}
use Rattle.leaf_rows.specs.Setting.{frame_with}
use Rattle.leaf_changes.proofs.ChangeLemmas.{frame_in}
use Rattle.leaf_changes.proofs.SettingLemmas.{value_there}
use Rattle.leaf_changes.proofs.tree_call.TreeCall.set_row.Given as goal

abbrev pub ghosts-set_in_place : goal.ghosts-set_in_place
ghosts-set_in_place g a = record {
  block = a.block;
  leaf = frame_with a.place a.value.now
      (length a.value.now == length (value_there a.place (frame_in a.pass.now a.block)))
      (frame_in a.pass.now a.block);
}
