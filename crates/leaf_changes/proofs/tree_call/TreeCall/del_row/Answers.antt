use Rattle.std.proofs.Common.{None, ap, subst, ◌∙◌, sym, refl, is_some}
use Rattle.latch_space.specs.Passes.{view}
use Rattle.map_history.specs.Map as map
use Rattle.map_history.specs.Operation.{Make}
use Rattle.index_law.specs.Meanings.{lent_row}
use Rattle.forest_world.specs.Held.{shape_of_pass, HasFrame}
use Rattle.hash_maintain.specs.Leaves.{kept_frame}
use Rattle.latch_space.specs.Has.{IsKnownBut}
use Rattle.forest_law.specs.Numbers.{frame_id}
use Rattle.buffer_pool.proofs.AgainLemmas.{passes_both}
use Rattle.map_history.specs.Told.{columns_told}
use Rattle.leaf_changes.specs.Changes.{HasOldRow}
use Rattle.leaf_changes.specs.Commits.{CanWriteAhead}
use Rattle.leaf_changes.specs.Holds.{KeepsParts}
use Rattle.leaf_changes.proofs.BackLemmas.{back_as, back_leaf, back_full, back_most, back_answers}
use Rattle.leaf_changes.proofs.CallLemmas.{can_refuse}
use Rattle.leaf_changes.proofs.GoneLemmas.{hash_next, makes_next, came_again}
use Rattle.leaf_changes.proofs.NumberLemmas.{number_made, made_inside}
use Rattle.leaf_changes.proofs.RehashLemmas.{old_rehashed, stands_kept}
use Rattle.leaf_changes.proofs.RowLemmas.{has_key}
use Rattle.leaf_changes.proofs.SettleLemmas.{keeps_parts, known_after}
use Rattle.leaf_changes.proofs.TellLemmas.{says_made, says_same}
use Rattle.leaf_changes.proofs.tree_call.TreeCall.del_row.Goals as goal

pub write_ahead-requires-clause-held : goal.write_ahead-requires-clause-held
write_ahead-requires-clause-held g c = let held = c.requires.held in let call = c.args.self.now in
    let p = c.args.pass.now in let key = call.key.now.tuple in let next = g.X.Becomes.leaf in
    let b = c.args.block in
    subst (λ k. CanWriteAhead p k call.index key (map.Del key) next) (sym c.requires.block)
    (record {
      index = held.index;
      known = held.known;
      now = kept_frame held.answer held.known;
      holds = held.holds;
      hash = hash_next p b call.index c.args.place key next held;
      about = refl;
      makes = makes_next p b call.index c.args.place key next held;
    })

pub delete-requires-clause-held : goal.delete-requires-clause-held
delete-requires-clause-held g c = let held = c.requires.held in let p = c.args.pass.now in
    let q = c.write_ahead.new.pass in let next = g.X.Becomes.leaf in
    let now = kept_frame held.answer held.known in
    let key = c.args.self.now.key.now.tuple in record {
      known = next;
      now = now;
      has = subst (λ b. HasFrame q b next now) c.requires.block
          (c.in-Ok.ensures.did.frame held.known now
          (subst (λ b. HasFrame p b held.known now) (sym c.requires.block) held.holds.has));
      stands = (key, stands_kept held.answer held.known c.args.place key held.row.has);
    }

pub come_back-requires-clause-held : goal.come_back-requires-clause-held
come_back-requires-clause-held g c = let held = c.requires.held in let call = c.args.self.now in
    let full = c.in-Err.ensures.did in
    came_again c.args.pass.now c.args.block call.index c.args.place call.key.now.tuple
    g.X.Becomes.leaf held c.write_ahead.new.pass full.same full.looks.quiet.adds.numbers.terms

pub say_of_del-requires-clause-held : goal.say_of_del-requires-clause-held
say_of_del-requires-clause-held g c = let held = c.requires.held in let call = c.args.self.now in
    let i = call.index in let key = call.key.now.tuple in let b = c.args.block in
    let place = c.args.place in let n = c.in-Err.field-0.0 in let full = c.in-Err.ensures.did in
    let p = c.args.pass.now in let q = c.write_ahead.new.pass in let r = c.come_back.new.pass in
    let out = c.come_back.ensures.back in let f = held.known in
    let now = kept_frame held.answer f in
    let leaf = back_leaf p q r i b n key f now held.holds full out in
    let row = subst (λ z. HasOldRow z key place)
    (back_as p q r i b n key f now held.holds full out)
    (old_rehashed out.leaf f key place held.row) in
    let has = has_key (shape_of_pass r) i key out.leaf leaf.leaf place row in
    can_refuse r b i key out.leaf leaf (map.Del key) n (lent_row None) refl (ap is_some has.1)
    (back_full p q r i b n key f now held.holds full out)
    (back_most p q r i b n key f now held.holds full out)

pub returns-in-Ok-clause-did : goal.returns-in-Ok-clause-did
returns-in-Ok-clause-did g c = let held = c.requires.held in let call = c.args.self.now in
    let did = c.in-Ok.ensures.did in let next = g.X.Becomes.leaf in let p = c.args.pass.now in
    let q = c.write_ahead.new.pass in let r = c.delete.new.pass in let b = c.args.block in
    let key = call.key.now.tuple in let change = map.Del key in let ask = Make change in
    let now = kept_frame held.answer held.known in
    let makes = makes_next p b call.index c.args.place key next held in
    let has = subst (λ k. HasFrame q k next now) c.requires.block
    (did.frame held.known now
    (subst (λ k. HasFrame p k held.known now) (sym c.requires.block) held.holds.has)) in
    let there = subst (HasFrame r b next) (sym held.next_is) (c.delete.ensures.out next now has) in
    let rest = subst (λ k. IsKnownBut q (frame_id (shape_of_pass q) k)) c.requires.block did.rest in
    let hash = hash_next p b call.index c.args.place key next held in
    record {
      says = says_same (view p) (view q) (view r) call.index ask c.made.result (lent_row None)
          (says_made p q call.index change (lent_row None) call.found c.made.result c.in-Ok.point
          c.made.ensures did.written) c.delete.ensures.same.view;
      holds = record {
        frame = next;
        has = there;
        inside = made_inside p b call.index key held.known now held.holds (shape_of_pass p)
            change next makes;
      };
      number = number_made (view p) b held.known held.holds.has.held (shape_of_pass p) change next
          makes;
      stays = record {
        known = known_after q r b next c.delete.ensures.same rest there;
        parts = subst (λ v. KeepsParts (view p) v) (sym c.delete.ensures.same.view)
            (keeps_parts p q held.index b next hash.part did.parts);
        count = c.delete.ensures.same.count ∙ did.count;
      };
    }

pub returns-in-Err-clause-did : goal.returns-in-Err-clause-did
returns-in-Err-clause-did g c = let held = c.requires.held in let call = c.args.self.now in
    let key = call.key.now.tuple in
    back_answers c.args.pass.now c.write_ahead.new.pass c.come_back.new.pass call.index
    c.args.block c.in-Err.field-0.0 key held.known (kept_frame held.answer held.known) held.holds
    c.in-Err.ensures.did c.come_back.ensures.back c.say_of_del.new.pass (Make (map.Del key))
    c.say_of_del.result (lent_row None) c.say_of_del.ensures.kept c.say_of_del.ensures.did

pub returns-in-Ok-clause-own : goal.returns-in-Ok-clause-own
returns-in-Ok-clause-own g c = (
  passes_both c.args.pass.now c.write_ahead.new.pass c.delete.new.pass c.write_ahead.ensures.own.0
      c.delete.ensures.own.0,
  c.delete.ensures.own.1,
)

pub returns-in-Ok-clause-columns : goal.returns-in-Ok-clause-columns
returns-in-Ok-clause-columns g c = ap columns_told c.made.ensures

pub returns-in-Err-clause-own : goal.returns-in-Err-clause-own
returns-in-Err-clause-own g c = (
  passes_both c.args.pass.now c.write_ahead.new.pass c.say_of_del.new.pass
      c.write_ahead.ensures.own.0 (passes_both c.write_ahead.new.pass c.come_back.new.pass
      c.say_of_del.new.pass c.come_back.ensures.own.0 c.say_of_del.ensures.own.0),
  c.say_of_del.ensures.own.1,
)

pub returns-in-Err-clause-columns : goal.returns-in-Err-clause-columns
returns-in-Err-clause-columns g c = c.say_of_del.ensures.columns

pub delete-requires-clause-own : goal.delete-requires-clause-own
delete-requires-clause-own g c = c.write_ahead.ensures.own.1

pub come_back-requires-clause-own : goal.come_back-requires-clause-own
come_back-requires-clause-own g c = c.write_ahead.ensures.own.1

pub say_of_del-requires-clause-own : goal.say_of_del-requires-clause-own
say_of_del-requires-clause-own g c = c.come_back.ensures.own.1
