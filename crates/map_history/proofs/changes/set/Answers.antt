use Rattle.std.proofs.Common.{sym, ap, ◌∙◌, is_some, Result, Ok, Err, OnErr}
use Rattle.std.proofs.lemmas.Map.Steps.{set_value_same}
use Rattle.std.specs.BTreeMap.{is_at}
use Rattle.std.specs.Option.{option_copied_mut}
use Rattle.map_history.specs.Map.{after_change, Set}
use Rattle.map_history.proofs.PairsLemmas.{rows_of, entry_cmp}
use Rattle.map_history.proofs.ApplyLemmas.{after_set, after_set_absent}
use Rattle.map_history.proofs.changes.set.Goals as goal

on_err : {T E P : Type 0} (r : Result T E) → P → OnErr r P
on_err (Ok x) p = tt
on_err (Err e) p = p

pub returns-in_err-slot-clause-err : goal.returns-in_err-slot-clause-err
returns-in_err-slot-clause-err c =
    let written = c.get_mut.follows.holds c.in-Some.slot.now in
    let found = sym c.get_mut.ensures.value ∙ ap option_copied_mut c.in-Some.is in
    on_err c.from_residual.result (ap rows_of (written.0 ∙ set_value_same (is_at (entry_cmp c.args.key.now)) c.args.map.now.entries c.in-Some.slot.now found))

pub returns-in_ok-slot-clause-ok : goal.returns-in_ok-slot-clause-ok
returns-in_ok-slot-clause-ok c =
    let key = c.args.key.now in
    let old = c.args.map.now.entries in
    let written = c.get_mut.follows.holds c.in_ok-slot.field-0 in
    let found = ap is_some (sym c.get_mut.ensures.value ∙ ap option_copied_mut c.in-Some.is) in
    ap rows_of written.0 ∙ after_set key old c.in_ok-slot.field-0 c.get_mut.ensures.ordered found ∙ ap (λ v. after_change (rows_of old) (Set key.tuple v)) c.in_ok-slot.ensures.cases

pub returns-in_default-clause-ok : goal.returns-in_default-clause-ok
returns-in_default-clause-ok c =
    let absent = ap is_some (sym c.get_mut.ensures.value ∙ ap option_copied_mut c.in_default.is) in
    ap (λ m. rows_of m.entries) c.get_mut.follows.holds-at-none ∙ after_set_absent c.args.key.now c.args.map.now.entries c.args.value.now absent
