use Rattle.search_info.proofs.learner.Learner.read.Given as goal

abbrev pub ghosts-load_at : goal.ghosts-load_at
ghosts-load_at a = record { event = a.event.now }
