-- Each line is one of the lane's, and the numbers rise.
use Rattle.script.specs.Views.{schema_text}
use Rattle.map_history.specs.Lines.{line_texts}
use Rattle.script.proofs.LaneFacts.{told_lane}
use Rattle.script.proofs.NumberFacts.{numbered_lane}
use Rattle.script.proofs.reading.read_lane.Goals as goal

pub returns-clause-lines : goal.returns-clause-lines
returns-clause-lines c = told_lane (schema_text c.args.schema.now) c.args.bytes.now (λ v. line_texts v.items) c.read_lines.result c.args.schema.now.shape.counts c.read_lines.ensures

pub returns-clause-numbers : goal.returns-clause-numbers
returns-clause-numbers c = numbered_lane (schema_text c.args.schema.now) c.args.bytes.now (λ v. line_texts v.items) c.read_lines.result c.read_lines.ensures
