use Rattle.std.proofs.Common.{ap, ◌∙◌}
use Rattle.generated.proofs.ValueLemmas.{written_value, unrefused}
use Rattle.generated.proofs.drawing.value_written.Goals as goal

pub unreachable-requires : goal.unreachable-requires
unreachable-requires c =
    let bytes = c.into_bytes.result.items in
    unrefused bytes (written_value bytes c.args.line (ap (λ v. v.items) c.into_bytes.ensures.value ∙ c.in_ok-text.ensures.ok) c.ranges.line.fits) c.in-Err.ensures.cause
