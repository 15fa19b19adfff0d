use Rattle.std.proofs.Common.{Vec, Global, Result, subst}
use Rattle.std.specs.Prelude.{IfOk}
use Rattle.map_history.specs.Lines.{line_texts}
use Rattle.map_history.specs.declared.line.Line.{Line}
use Rattle.script.specs.Lane.{AreLaneLines}
use Rattle.script.specs.Views.{schema_text}
use Rattle.script.specs.declared.error.ScriptError.{ScriptError}
use Rattle.reading_tests.proofs.KnownLemmas.{lane_known}
use Rattle.reading_tests.proofs.setup.read.Goals as goal

pub read_report-requires-clause-known : goal.read_report-requires-clause-known
read_report-requires-clause-known g c = let schema = schema_text c.expect-schema.result in
    lane_known schema c.expect-lane.result
    (subst (λ (r : Result (Vec Line Global) ScriptError). IfOk r
    (λ v. AreLaneLines schema (line_texts v.items))) c.expect-lane.ensures c.read_lane.ensures.lines)
