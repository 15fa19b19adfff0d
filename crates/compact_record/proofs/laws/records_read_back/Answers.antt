use Rattle.compact_record.proofs.LawLemmas.{record_read, record_there}
use Rattle.compact_record.proofs.laws.records_read_back.Goals as goal

pub returns : goal.returns
returns c = record { read = record_read; there = record_there }
