use Rattle.std.proofs.Common.{sym, ◌∙◌}
use Rattle.map_ranges.proofs.BoundLemmas.{length-with_last}
use Rattle.map_ranges.proofs.bounds.WithLastFields.count.Goals as goal

pub returns : goal.returns
returns c =
    let fields = c.args.self.now.tuple.now.fields in
    c.count.ensures ∙ sym (length-with_last fields c.args.self.now.last.now)
