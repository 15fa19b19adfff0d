use Rattle.ahi_cli.proofs.LawLemmas.{ends_by_first, ends_by_words, ends_by_missing}
use Rattle.ahi_cli.proofs.law.runs_end_by_first_refusal.Goals as goal

pub returns : goal.returns
returns c = record { files = ends_by_first; words = ends_by_words; missing = ends_by_missing }
