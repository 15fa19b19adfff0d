use Rattle.std.proofs.Common.{cond, [], ◌∷◌, sym, ap, ◌∙◌}
use Rattle.hash_upkeep.proofs.change.unless_shared.Goals as goal

pub returns-else-shares_fold : goal.returns-else-shares_fold
returns-else-shares_fold c =
    ap (λ b. cond b [] (c.args.node ∷ [])) (sym c.if-shares_fold.false ∙ c.shares_fold.ensures)
