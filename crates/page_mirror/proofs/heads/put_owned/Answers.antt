use Rattle.std.proofs.Common.{◌-◌, ◌/◌, ℕ, ap, ◌∙◌, arith}
use Rattle.std.proofs.lemmas.List.{get_or-set_same}
use Rattle.page_mirror.proofs.heads.put_owned.Goals as goal

pub returns-clause-info : goal.returns-clause-info
returns-clause-info c =
    ap (λ (byte : ℕ). byte / 16) (get_or-set_same c.args.page.now (c.args.at - 5) _ 0 (omega arith)) ∙ omega arith
