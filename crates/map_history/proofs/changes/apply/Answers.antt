use Rattle.std.proofs.Common.{sym, ap, ◌∙◌}
use Rattle.list_facts.proofs.Outcomes.{when_err}
use Rattle.map_history.specs.Map.{after_change}
use Rattle.map_history.specs.Operation.{change_of}
use Rattle.map_history.specs.Pairs.{pairs}
use Rattle.map_history.proofs.changes.apply.Goals as goal

pub returns-in_err-put-in-Put-clause-err : goal.returns-in_err-put-in-Put-clause-err
returns-in_err-put-in-Put-clause-err c = when_err c.from_residual.result c.in_err-put-in-Put.ensures.err

pub returns-in_ok-put-in-Put-clause-ok : goal.returns-in_ok-put-in-Put-clause-ok
returns-in_ok-put-in-Put-clause-ok c =
    c.in_ok-put-in-Put.ensures.ok
    ∙ ap (λ change. after_change (pairs c.args.map.now) (change_of change)) (sym c.in-Put.is)
