use Rattle.hash_upkeep.proofs.LawLemmas.{written_keep}
use Rattle.hash_upkeep.proofs.laws.written_rows_keep_entries.Goals as goal

pub returns : goal.returns
returns c = written_keep
