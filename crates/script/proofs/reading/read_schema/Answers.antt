-- The draft's lists are those of a schema.
use Rattle.script.specs.Views.{draft_text}
use Rattle.script.proofs.SchemaFacts.{spelled_schema}
use Rattle.script.proofs.reading.read_schema.Goals as goal

pub invariant_of-result : goal.invariant_of-result
invariant_of-result c = record { shape = spelled_schema c.args.bytes.now (draft_text c.in_ok-draft.draft) c.in_ok-draft.ensures }

pub returns-clause-refused : goal.returns-clause-refused
returns-clause-refused c = rw c.in_ok-draft.ensures tt
