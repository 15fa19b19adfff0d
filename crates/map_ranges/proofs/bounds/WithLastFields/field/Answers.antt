use Rattle.std.proofs.Common.{◌≡◌, ◌+◌, ◌<◌, length, sym, ◌∙◌, arith}
use Rattle.map_ranges.proofs.BoundLemmas.{length-with_last, with_last-last, with_last-other}
use Rattle.map_ranges.proofs.bounds.WithLastFields.field.Goals as goal

pub field-requires : goal.field-requires
field-requires c =
    let count = length-with_last c.args.self.now.tuple.now.fields c.args.self.now.last.now in
    omega (arith, c.requires, count)

pub returns-then-i-last-clause-bytes : goal.returns-then-i-last-clause-bytes
returns-then-i-last-clause-bytes c =
    let fields = c.args.self.now.tuple.now.fields in
    let last = c.args.self.now.last.now in
    let at : c.args.i + 1 ≡ length fields =
    omega (arith, c.requires, length-with_last fields last, c.count-last.ensures, c.if-i-last.true) in
    sym (with_last-last fields last c.args.i at)

pub returns-else-i-last-clause-bytes : goal.returns-else-i-last-clause-bytes
returns-else-i-last-clause-bytes c =
    let fields = c.args.self.now.tuple.now.fields in
    let last = c.args.self.now.last.now in
    let at : c.args.i + 1 < length fields =
    omega (arith, c.requires, length-with_last fields last, c.count-last.ensures, c.if-i-last.false) in
    c.field.ensures.bytes ∙ sym (with_last-other fields last c.args.i at)
