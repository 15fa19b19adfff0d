use Rattle.std.proofs.Common.{is_some, sym, ap, ◌∙◌}
use Rattle.forest_law.specs.declared.objects.Frame.{Frame}
use Rattle.tree_cursor.proofs.ReadLemmas.{found_is}
use Rattle.index_scans.proofs.scan_call.ScanCall.has_high.Goals as goal

pub returns : goal.returns
returns g c = λ h.
    let same = ap (λ (f : Frame). is_some f.high)
    (found_is c.args.pass.now c.requires.known c.args.block c.args.self.now.index h
    c.frame.result.now c.frame.ensures) in (
      (λ e. sym same ∙ (sym c.is_some.ensures ∙ e)),
      (λ some. c.is_some.ensures ∙ (same ∙ some)),
    )
