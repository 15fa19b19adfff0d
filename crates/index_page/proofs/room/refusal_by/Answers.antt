use Rattle.std.proofs.Common.{sym, arith}
use Rattle.index_page.proofs.RefusalLemmas.{refused_full, not_refused}
use Rattle.index_page.proofs.room.refusal_by.Goals as goal

pub returns-then-need-free : goal.returns-then-need-free
returns-then-need-free c = sym (refused_full c.args.need c.args.free c.if-need-free.true)

pub returns-else-need-free : goal.returns-else-need-free
returns-else-need-free c = sym (not_refused c.args.need c.args.free c.if-need-free.false (omega (arith, c.requires)))
