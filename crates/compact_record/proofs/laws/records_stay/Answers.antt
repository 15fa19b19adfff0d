use Rattle.compact_record.proofs.LawLemmas.{record_stays, record_size}
use Rattle.compact_record.proofs.laws.records_stay.Goals as goal

pub returns : goal.returns
returns c = record { stays = record_stays; size = record_size }
