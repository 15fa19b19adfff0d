use Rattle.std.proofs.Common.{ℕ, List, arith}
use Rattle.compact_record.specs.Bytes.{SameOutside}
use Rattle.compact_record.proofs.BytesLemmas.{outside-then}
use Rattle.page_heap.proofs.writing.put_heap_end.Goals as goal

both_written : {a b c : List ℕ} → SameOutside a b 40 42 → SameOutside b c 42 44 → SameOutside a c 40 44
both_written top count = outside-then (omega arith) (omega arith) (omega arith) top count

pub returns-clause-kept : goal.returns-clause-kept
returns-clause-kept c = both_written c.put_u16.ensures.kept c.put_u16-2.ensures.kept
