use Rattle.ahi_cli.proofs.RoomLemmas.{finds_pages}
use Rattle.ahi_cli.proofs.law.ample_runs_find_pages.Goals as goal

pub returns : goal.returns
returns c schema lanes bytes told enough = finds_pages schema lanes bytes told enough
