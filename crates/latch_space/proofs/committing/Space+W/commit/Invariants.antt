use Rattle.latch_space.specs.Passes.{values}
use Rattle.latch_space.proofs.committing.Space+W.commit.Given as goal

abbrev pub ghosts-commit_ahead : goal.ghosts-commit_ahead
ghosts-commit_ahead g a = record { values = values a.pass.now }
