-- What was put and what is left are the whole.
use Rattle.std.proofs.Common.{length}
use Rattle.report_text.proofs.RunLemmas.{IsPutSoFar}
use Rattle.report_text.proofs.field.put_bytes.Given as goal

abbrev pub invariant-rest : goal.invariant-rest
invariant-rest l = IsPutSoFar l.initial.out.items l.out.items l.bytes l.rest

abbrev pub decreases-rest : goal.decreases-rest
decreases-rest l = length l.rest
