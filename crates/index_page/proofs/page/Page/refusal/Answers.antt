use Rattle.std.proofs.Common.{sym, ◌∙◌}
use Rattle.index_page.proofs.RefusalLemmas.{fits_beside}
use Rattle.index_page.proofs.page.Page.refusal.Goals as goal

pub returns-clause-room : goal.returns-clause-room
returns-clause-room c = λ none.
    fits_beside c.args.self.now.rows c.args.need c.free.result c.is_in_order.ensures.fits c.free.ensures (sym c.refusal_by.ensures ∙ none)
