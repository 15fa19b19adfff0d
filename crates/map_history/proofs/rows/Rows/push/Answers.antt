use Rattle.std.proofs.Common.{◌≡◌, ◌++◌, ◌∷◌, [], ◌∙◌, ap, sym, arith, ℕ, Result, Ok, Err, OnErr, is_err, true, length, take, subst}
use Rattle.map_history.specs.Map.{Map}
use Rattle.map_history.specs.Rows.{row_from}
use Rattle.list_facts.proofs.Outcomes.{as_ok, of_ok}
use Rattle.map_history.proofs.RowsLemmas.{AreRows-push, rows-push}
use Rattle.map_history.proofs.rows.Rows.push.Given.{Over}
use Rattle.map_history.specs.Rows.{rows_of_parts, AreRows}
use Rattle.key_tuple.specs.Order.{FieldList}
use Rattle.map_history.proofs.rows.Rows.push.Goals as goal

-- the end of the new row stands behind the others
ends_after : (g : Over) (c : goal.After-push-room_holds g) → c.push-room_holds.new.self.items ≡ c.self.inside.ends.items ++ c.count.result ∷ []
ends_after g c =
    as_ok c.push-room_holds.result _ _ _ (c.push-room_holds.ensures.succeeds (omega (arith, c.in_ok-reserve.ensures.ok))) c.push-room_holds.ensures.items
    ∙ ap (λ ends. ends ++ c.count.result ∷ []) c.in_ok-reserve.ensures.items

pub invariant_of-self-2 : goal.invariant_of-self-2
invariant_of-self-2 g c =
    let key = g.A.Fields.fields_of c.args.key.now in
    let added = of_ok c.add_row.result (sym c.if-is_err.ensures.value) c.add_row.ensures.ok in
    let readable = of_ok c.add_row.result (sym c.if-is_err.ensures.value) c.add_row.ensures.readable in
    rw (ends_after g c, c.count.ensures, added) (AreRows-push c.self.inside.parts c.self.inside.ends.items key c.args.value.now c.self.invariant readable)

pub returns-clause-ok : goal.returns-clause-ok
returns-clause-ok g c =
    let key = g.A.Fields.fields_of c.args.key.now in
    let added = of_ok c.add_row.result (sym c.if-is_err.ensures.value) c.add_row.ensures.ok in
    let after = rows-push c.self.inside.parts c.self.inside.ends.items key c.args.value.now c.self.invariant in
    rw (ends_after g c, c.count.ensures, added) (after ∙ ap (λ (m : Map). m ++ row_from key c.args.value.now ∷ []) c.self.view_is)

-- after an error the parts are cut back to those that were there
cut_back : {T E : Type 0} (old parts new : FieldList) (start : ℕ) (r : Result T E) → start ≡ length old → is_err r ≡ true
    → OnErr r (take (length old) parts ≡ old) → new ≡ take start parts → new ≡ old
cut_back old parts new start (Ok x) count err kept cut = absurd cc
cut_back old parts new start (Err e) count err kept cut = cut ∙ ap (λ (n : ℕ). take n parts) count ∙ kept

pub invariant_of-self-then-is_err : goal.invariant_of-self-then-is_err
invariant_of-self-then-is_err g c =
    let same = cut_back c.self.inside.parts c.add_row.new.parts c.truncate.new.self c.count-start.result c.add_row.result c.count-start.ensures
    (sym c.if-is_err.ensures.value) c.add_row.ensures.err c.truncate.ensures in
    subst (λ (parts : FieldList). AreRows parts c.reserve.new.self.items) (sym same)
    (subst (AreRows c.self.inside.parts) (sym c.in_ok-reserve.ensures.items) c.self.invariant)

pub returns-then-is_err-clause-err : goal.returns-then-is_err-clause-err
returns-then-is_err-clause-err g c =
    let same = cut_back c.self.inside.parts c.add_row.new.parts c.truncate.new.self c.count-start.result c.add_row.result c.count-start.ensures
    (sym c.if-is_err.ensures.value) c.add_row.ensures.err c.truncate.ensures in
    (λ i. rows_of_parts (same i) (c.in_ok-reserve.ensures.items i)) ∙ c.self.view_is

pub invariant_of-self : goal.invariant_of-self
invariant_of-self g c = subst (AreRows c.self.inside.parts) (sym c.in_err-reserve.ensures.items) c.self.invariant
