-- The parts are the value and the fields so far, behind those that were there.
use Rattle.std.proofs.Common.{◌≡◌, ℕ, ◌+◌, ◌<◌, List, [], ◌∷◌, ◌++◌, length, take, get_or, ap, sym, ◌∙◌, subst, append_assoc, arith}
use Rattle.std.proofs.lemmas.List.{take_all, take_more}
use Rattle.std.proofs.Math.Seq.{take-append_seam}
use Rattle.std.specs.List.{AllByRecursion}
use Rattle.key_tuple.specs.Order.{FieldList}
use Rattle.list_facts.proofs.Each.{each_append}
use Rattle.list_facts.proofs.Outcomes.{when_err}
use Rattle.map_history.proofs.rows.add_row.Goals as goal

-- one field more
field_added : (old fields now new : FieldList) (value part : List ℕ) (i : ℕ) → i < length fields → now ≡ old ++ value ∷ take i fields → new ≡ now ++ part ∷ [] → part ≡ get_or fields i [] → new ≡ old ++ value ∷ take (i + 1) fields
field_added old fields now new value part i below so_far pushed is =
    pushed ∙ ap (λ (ps : FieldList). ps ++ part ∷ []) so_far ∙ append_assoc old (value ∷ take i fields) (part ∷ [])
    ∙ ap (λ (ps : FieldList). old ++ value ∷ ps) (ap (λ p. take i fields ++ p ∷ []) is ∙ sym (take_more fields i [] below))

still_short : (P : List ℕ → Type 0) (fields : FieldList) (i : ℕ) → i < length fields → AllByRecursion P (take i fields) → P (get_or fields i []) → AllByRecursion P (take (i + 1) fields)
still_short P fields i below so_far here =
    subst (λ (ps : FieldList). AllByRecursion P ps) (sym (take_more fields i [] below)) (each_append P (take i fields) (get_or fields i [] ∷ []) so_far (here, tt))

pub returns-in_err-push-clause-err : goal.returns-in_err-push-clause-err
returns-in_err-push-clause-err g c =
    when_err c.from_residual.result (ap (take (length c.args.parts.now)) c.in_err-push.ensures.err ∙ take_all (length c.args.parts.now) c.args.parts.now (omega arith))

pub returns-in_err-push-2-clause-err : goal.returns-in_err-push-2-clause-err
returns-in_err-push-2-clause-err g c =
    when_err c.from_residual-in_err-push-2.result
    (ap (take (length c.args.parts.now)) (c.in_err-push-2.ensures.err ∙ c.loop-i.invariant.parts) ∙ take-append_seam c.args.parts.now (c.args.value.now ∷ take c.loop-i.i (g.A.Fields.fields_of c.args.key.now)))

pub loop-i-preserved : goal.loop-i-preserved
loop-i-preserved g c =
    let fields = g.A.Fields.fields_of c.args.key.now in
    let below : c.loop-i.i < length fields = omega (arith, c.count-i-end.ensures, c.loop-i-test.true) in
    record {
      parts = field_added c.args.parts.now fields c.loop-i.parts c.push-in-loop-i.new.self c.args.value.now c.field.result.now c.loop-i.i below c.loop-i.invariant.parts c.in_ok-push-2.ensures.ok c.field.ensures.bytes;
      short = still_short (λ field. length field < 65536) fields c.loop-i.i below c.loop-i.invariant.short (subst (λ (f : List ℕ). length f < 65536) c.field.ensures.bytes c.field.ensures.fits);
    }

pub returns-clause-ok : goal.returns-clause-ok
returns-clause-ok g c =
    let fields = g.A.Fields.fields_of c.args.key.now in
    c.loop-i.invariant.parts ∙ ap (λ (ps : FieldList). c.args.parts.now ++ c.args.value.now ∷ ps) (take_all c.loop-i.i fields (omega (arith, c.count-i-end.ensures, c.loop-i-test.false)))

pub returns-clause-readable : goal.returns-clause-readable
returns-clause-readable g c =
    let fields = g.A.Fields.fields_of c.args.key.now in
    record {
      few = omega (arith, c.count-i-end.ensures, c.count-i-end.type_inv);
      short = subst (λ (ps : FieldList). AllByRecursion (λ field. length field < 65536) ps) (take_all c.loop-i.i fields (omega (arith, c.count-i-end.ensures, c.loop-i-test.false))) c.loop-i.invariant.short;
    }
