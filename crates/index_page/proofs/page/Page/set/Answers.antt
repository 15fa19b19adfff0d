use Rattle.std.proofs.Common.{◌≡◌, Some, None, sym, ◌∙◌}
use Rattle.index_page.proofs.RewriteLemmas.{none_for_no_longer}
use Rattle.index_page.proofs.page.Page.set.Goals as goal

pub returns-in-Some-clause-no_longer : goal.returns-in-Some-clause-no_longer
returns-in-Some-clause-no_longer c = λ row before there is less.
    let none = none_for_no_longer c.args.self.now c.args.place row before c.args.value.now c.is_in_order.ensures there is less in
    let never : Some c.in-Some.refusal ≡ None = sym c.in-Some.is ∙ c.refusal_to_set.ensures ∙ none in
    absurd cc
