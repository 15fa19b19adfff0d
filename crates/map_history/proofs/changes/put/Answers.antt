use Rattle.std.proofs.Common.{sym, ap, ◌∙◌}
use Rattle.map_history.specs.Map.{after_change, Put}
use Rattle.map_history.proofs.PairsLemmas.{rows_of}
use Rattle.map_history.proofs.ApplyLemmas.{after_put, after_put_present}
use Rattle.map_history.proofs.changes.put.Goals as goal

pub returns-in_ok-insert-clause-ok : goal.returns-in_ok-insert-clause-ok
returns-in_ok-insert-clause-ok c =
    let key = c.args.key.now in
    let old = c.args.map.now.entries in
    let absent = sym c.contains_key.ensures ∙ c.if-not-contains_key.true in
    let made = after_put key old c.in_ok-clone.field-0 c.in_ok-clone-2.field-0 c.in_ok-insert.ensures.was_ordered c.in_ok-clone.ensures.cases.0 absent in
    ap rows_of c.in_ok-insert.ensures.entries ∙ made ∙ ap (λ v. after_change (rows_of old) (Put key.tuple v)) c.in_ok-clone-2.ensures.cases

pub returns-else-not-contains_key-clause-ok : goal.returns-else-not-contains_key-clause-ok
returns-else-not-contains_key-clause-ok c = after_put_present c.args.key.now c.args.map.now.entries c.args.value.now (sym c.contains_key.ensures ∙ c.if-not-contains_key.false)
