use Rattle.ahi_cli.proofs.LawLemmas.{ends_well}
use Rattle.ahi_cli.proofs.law.good_runs_are_done.Goals as goal

pub returns : goal.returns
returns c asked out status well sound e = ends_well asked out status well sound e
