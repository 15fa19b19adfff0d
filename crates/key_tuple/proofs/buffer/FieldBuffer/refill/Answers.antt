-- The fields so far and the next one fit the room, so no push fails.
use Rattle.std.proofs.Common.{◌≡◌, ℕ, ◌+◌, ◌<◌, ◌≤◌, List, [], ◌∷◌, ◌++◌, length, take, get_or, ap, sym, ◌∙◌, arith}
use Rattle.std.proofs.lemmas.List.{take_all, take_more, length-take-le}
use Rattle.std.proofs.lemmas.List.Sums.{sum_by_more_le}
use Rattle.key_tuple.specs.declared.TheConstants.{MAX_KEY_BYTES}
use Rattle.key_tuple.specs.Order.{FieldList, byte_count}
use Rattle.list_facts.proofs.Outcomes.{of_sure}
use Rattle.key_tuple.proofs.buffer.FieldBuffer.refill.Goals as goal

-- the bytes of the fields so far and the next one
bytes_so_far : (fields now : FieldList) (part : List ℕ) (i : ℕ) → byte_count fields ≤ MAX_KEY_BYTES → i < length fields → now ≡ take i fields → part ≡ get_or fields i [] → byte_count now + length part ≤ MAX_KEY_BYTES
bytes_so_far fields now part i short below so_far is =
    omega (arith, sum_by_more_le length fields i [] below, ap byte_count so_far, ap length is)

pub push-room_holds-requires-clause-slot : goal.push-room_holds-requires-clause-slot
push-room_holds-requires-clause-slot g c =
    let fields = g.A.Fields.fields_of c.args.from.now in
    let within : c.loop-i.i ≤ length fields = omega (arith, c.count-i-end.ensures, c.loop-i-test.true) in
    omega (arith, ap length c.loop-i.invariant.fields, length-take-le c.loop-i.i fields within, c.count-i-end.ensures, c.loop-i-test.true, c.requires.limits.few)

pub push-room_holds-requires-clause-short : goal.push-room_holds-requires-clause-short
push-room_holds-requires-clause-short g c =
    let fields = g.A.Fields.fields_of c.args.from.now in
    let below : c.loop-i.i < length fields = omega (arith, c.count-i-end.ensures, c.loop-i-test.true) in
    omega (arith, bytes_so_far fields c.loop-i.self.fields c.field.result.now c.loop-i.i c.requires.limits.short below c.loop-i.invariant.fields c.field.ensures.bytes)

pub loop-i-preserved : goal.loop-i-preserved
loop-i-preserved g c =
    let fields = g.A.Fields.fields_of c.args.from.now in
    let below : c.loop-i.i < length fields = omega (arith, c.count-i-end.ensures, c.loop-i-test.true) in
    let most = bytes_so_far fields c.loop-i.self.fields c.field.result.now c.loop-i.i c.requires.limits.short below c.loop-i.invariant.fields c.field.ensures.bytes in
    let pushed : c.push-room_holds.new.self.fields ≡ c.loop-i.self.fields ++ c.field.result.now ∷ [] = of_sure c.push-room_holds.result (c.push-room_holds.ensures.fits (omega (arith, most, c.requires.room, c.clear.ensures.room, c.loop-i.invariant.room))) c.push-room_holds.ensures.ok in
    record {
      fields =
          pushed ∙ ap (λ (ps : FieldList). ps ++ c.field.result.now ∷ []) c.loop-i.invariant.fields
          ∙ ap (λ p. take c.loop-i.i fields ++ p ∷ []) c.field.ensures.bytes ∙ sym (take_more fields c.loop-i.i [] below);
      room = omega (arith, c.loop-i.invariant.room, c.push-room_holds.ensures.room);
    }

pub returns-clause-fields : goal.returns-clause-fields
returns-clause-fields g c =
    let fields = g.A.Fields.fields_of c.args.from.now in
    c.loop-i.invariant.fields ∙ take_all c.loop-i.i fields (omega (arith, c.count-i-end.ensures, c.loop-i-test.false))
