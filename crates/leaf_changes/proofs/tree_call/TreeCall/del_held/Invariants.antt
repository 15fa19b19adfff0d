use Rattle.leaf_rows.specs.Changing.{frame_without}
use Rattle.leaf_changes.proofs.ChangeLemmas.{frame_in}
use Rattle.leaf_changes.proofs.tree_call.TreeCall.del_held.Given as goal

abbrev pub ghosts-del_row : goal.ghosts-del_row
ghosts-del_row g a =
    record { block = a.block; leaf = frame_without a.place (frame_in a.pass.now a.block) }
