use Rattle.std.proofs.Common.{◌∙◌}
use Rattle.compact_record.proofs.LawLemmas.{ends_read, long_told, short_told}
use Rattle.compact_record.proofs.lengths.get_length.Goals as goal

pub returns-then-last-gt-MAX_SHORT_LENGTH : goal.returns-then-last-gt-MAX_SHORT_LENGTH
returns-then-last-gt-MAX_SHORT_LENGTH c = λ n e.
    long_told c.args.page.now c.args.top c.from-last.result c.from.result c.from-last.ensures c.from.ensures c.if-last-gt-MAX_SHORT_LENGTH.true
    ∙ ends_read e

pub returns-else-last-gt-MAX_SHORT_LENGTH : goal.returns-else-last-gt-MAX_SHORT_LENGTH
returns-else-last-gt-MAX_SHORT_LENGTH c = λ n e.
    short_told c.args.page.now c.args.top c.from-last.result c.from-last.ensures c.if-last-gt-MAX_SHORT_LENGTH.false ∙ ends_read e
