use Rattle.std.proofs.Common.{◌==◌, length, None, ap, subst, ◌∙◌, sym, refl, is_some}
use Rattle.latch_space.specs.Passes.{view}
use Rattle.map_history.specs.Map as map
use Rattle.map_history.specs.Operation.{Make}
use Rattle.index_law.specs.Meanings.{lent_row}
use Rattle.forest_world.specs.Held.{shape_of_pass, HasFrame}
use Rattle.buffer_pool.proofs.AgainLemmas.{passes_both}
use Rattle.map_history.specs.Told.{columns_told}
use Rattle.leaf_changes.specs.Commits.{MakesChange, CanWriteAhead}
use Rattle.latch_space.specs.Has.{IsKnownBut}
use Rattle.forest_law.specs.Numbers.{frame_id}
use Rattle.leaf_changes.specs.Hashed.{KeepsHashed}
use Rattle.leaf_changes.specs.Holds.{KeepsParts}
use Rattle.leaf_changes.proofs.CallLemmas.{can_refuse}
use Rattle.leaf_changes.proofs.SetRowLemmas.{hash_with}
use Rattle.leaf_changes.proofs.SettleLemmas.{keeps_parts, known_after, known_again, parts_same, stays_both, stays_same}
use Rattle.leaf_changes.proofs.HoldLemmas.{frame_again, leaf_again}
use Rattle.leaf_changes.proofs.NumberLemmas.{number_stays, number_made, leaf_inside, made_inside}
use Rattle.leaf_changes.proofs.RowLemmas.{has_key, set_makes}
use Rattle.leaf_changes.proofs.TellLemmas.{says_made, says_same, looks_then_says}
use Rattle.leaf_changes.proofs.tree_call.TreeCall.set_in_place.Goals as goal

pub write_ahead-requires-clause-held : goal.write_ahead-requires-clause-held
write_ahead-requires-clause-held g c = let held = c.requires.held in let call = c.args.self.now in
    let p = c.args.pass.now in let key = call.key.now.tuple in let value = c.args.value.now in
    subst (λ b. CanWriteAhead p b call.index key (map.Set key value) g.X.Becomes.leaf)
    (sym c.requires.block)
    (record {
      index = held.index;
      known = held.known;
      now = held.known;
      holds = held.holds;
      hash = subst (λ z. KeepsHashed p held.index c.args.block held.known z z) (sym held.next_is)
          (hash_with c.args.place value p held.index c.args.block held.known key
          (length value == length held.row.has.has.value) held.row.has held.hash);
      about = refl;
      makes = subst (MakesChange (shape_of_pass p) (map.Set key value) held.known)
          (sym held.next_is)
          (set_makes (shape_of_pass p) call.index key held.known held.holds.leaf _
          value (held.row.sets value (held.no_longer key held.row.has)));
    })

pub rewrite-requires-clause-held : goal.rewrite-requires-clause-held
rewrite-requires-clause-held g c = let held = c.requires.held in let p = c.args.pass.now in
    let q = c.write_ahead.new.pass in let next = g.X.Becomes.leaf in record {
      known = next;
      now = held.known;
      has = subst (λ b. HasFrame q b next held.known) c.requires.block
          (c.in-Ok.ensures.did.frame held.known held.known
          (subst (λ b. HasFrame p b held.known held.known) (sym c.requires.block)
          held.holds.has));
      stands = (c.args.self.now.key.now.tuple, held.row.has);
      no_longer = held.no_longer;
    }

pub say_of_set-requires-clause-held : goal.say_of_set-requires-clause-held
say_of_set-requires-clause-held g c = let held = c.requires.held in let call = c.args.self.now in
    let full = c.in-Err.ensures.did in let p = c.args.pass.now in let q = c.write_ahead.new.pass in
    let key = call.key.now.tuple in let b = c.args.block in
    let terms = full.looks.quiet.adds.numbers.terms in
    let holds = leaf_again p q b call.index key held.known held.known full.same terms held.holds in
    let has = has_key (shape_of_pass q) call.index key held.known holds.leaf c.args.place
    held.row in
    can_refuse q b call.index key held.known holds (map.Set key c.args.value.now)
    c.in-Err.field-0.0 (lent_row None)
    refl (ap is_some has.1) full.full (full.number ∙ ap (λ t. t.max_changes) (sym terms))

pub returns-in-Ok-clause-did : goal.returns-in-Ok-clause-did
returns-in-Ok-clause-did g c = let held = c.requires.held in let call = c.args.self.now in
    let did = c.in-Ok.ensures.did in let next = g.X.Becomes.leaf in let p = c.args.pass.now in
    let q = c.write_ahead.new.pass in let r = c.rewrite.new.pass in let b = c.args.block in
    let key = call.key.now.tuple in let change = map.Set key c.args.value.now in
    let makes = subst (MakesChange (shape_of_pass p) change held.known) (sym held.next_is)
    (set_makes (shape_of_pass p) call.index key held.known held.holds.leaf _ c.args.value.now
    (held.row.sets c.args.value.now (held.no_longer key held.row.has))) in
    let has = subst (λ k. HasFrame q k next held.known) c.requires.block
    (did.frame held.known held.known
    (subst (λ k. HasFrame p k held.known held.known) (sym c.requires.block) held.holds.has)) in
    record {
      says = says_same (view p) (view q) (view r) call.index (Make change) c.made.result
          (lent_row None)
          (says_made p q call.index change (lent_row None) call.found c.made.result
          c.in-Ok.point c.made.ensures did.written) c.rewrite.ensures.same.view;
      holds = record {
        frame = next;
        has = subst (HasFrame r b next) (sym held.next_is)
            (c.rewrite.ensures.set next held.known key held.row.has has);
        inside = made_inside p b call.index key held.known held.known held.holds (shape_of_pass p)
            change next makes;
      };
      number = number_made (view p) b held.known held.holds.has.held (shape_of_pass p) change next
          makes;
      stays = record {
        known = known_after q r b next c.rewrite.ensures.same
            (subst (λ k. IsKnownBut q (frame_id (shape_of_pass q) k)) c.requires.block did.rest)
            (subst (HasFrame r b next) (sym held.next_is)
            (c.rewrite.ensures.set next held.known key held.row.has has));
        parts = subst (λ v. KeepsParts (view p) v) (sym c.rewrite.ensures.same.view)
            (keeps_parts p q held.index b held.known held.hash.part did.parts);
        count = c.rewrite.ensures.same.count ∙ did.count;
      };
    }

pub returns-in-Err-clause-did : goal.returns-in-Err-clause-did
returns-in-Err-clause-did g c = let held = c.requires.held in let call = c.args.self.now in
    let full = c.in-Err.ensures.did in let p = c.args.pass.now in let q = c.write_ahead.new.pass in
    let r = c.say_of_set.new.pass in let b = c.args.block in let key = call.key.now.tuple in
    let terms = full.looks.quiet.adds.numbers.terms in
    let holds = leaf_again p q b call.index key held.known held.known full.same
    full.looks.quiet.adds.numbers.terms held.holds in
    record {
      says = looks_then_says (view p) (view q) (view r) call.index
          (Make (map.Set key c.args.value.now)) c.say_of_set.result (lent_row None) full.looks
          c.say_of_set.ensures.did;
      holds = record {
        frame = held.known;
        has = frame_again q r b held.known held.known c.say_of_set.ensures.kept
            c.say_of_set.ensures.did.once.adds.numbers.terms holds.has;
        inside = leaf_inside q b call.index key held.known held.known holds;
      };
      number = number_stays (view p) b held.known held.holds.has.held;
      stays = stays_both p q r terms (parts_same (view p) (view q) full.same.held terms)
          full.same.count
          (stays_same q r c.say_of_set.ensures.kept
          c.say_of_set.ensures.did.once.adds.numbers.terms (known_again p q full.same held.all));
    }

pub returns-in-Ok-clause-own : goal.returns-in-Ok-clause-own
returns-in-Ok-clause-own g c = (
  passes_both c.args.pass.now c.write_ahead.new.pass c.rewrite.new.pass c.write_ahead.ensures.own.0
      c.rewrite.ensures.own.0,
  c.rewrite.ensures.own.1,
)

pub returns-in-Ok-clause-columns : goal.returns-in-Ok-clause-columns
returns-in-Ok-clause-columns g c = ap columns_told c.made.ensures

pub returns-in-Err-clause-own : goal.returns-in-Err-clause-own
returns-in-Err-clause-own g c = (
  passes_both c.args.pass.now c.write_ahead.new.pass c.say_of_set.new.pass
      c.write_ahead.ensures.own.0 c.say_of_set.ensures.own.0,
  c.say_of_set.ensures.own.1,
)

pub returns-in-Err-clause-columns : goal.returns-in-Err-clause-columns
returns-in-Err-clause-columns g c = c.say_of_set.ensures.columns

pub rewrite-requires-clause-own : goal.rewrite-requires-clause-own
rewrite-requires-clause-own g c = c.write_ahead.ensures.own.1

pub say_of_set-requires-clause-own : goal.say_of_set-requires-clause-own
say_of_set-requires-clause-own g c = c.write_ahead.ensures.own.1
