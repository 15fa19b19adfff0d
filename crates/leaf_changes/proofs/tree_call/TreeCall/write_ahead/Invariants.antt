use Rattle.leaf_changes.proofs.FollowLemmas.{next_values}
use Rattle.leaf_changes.proofs.tree_call.TreeCall.write_ahead.Given as goal

abbrev pub ghosts-commit_ahead : goal.ghosts-commit_ahead
ghosts-commit_ahead g a = record {
  values = next_values a.pass.now g.X.Becomes.block g.X.Becomes.leaf;
}
