use Rattle.std.proofs.Common.{None, ap, subst, refl, is_some}
use Rattle.map_history.specs.Map as map
use Rattle.map_history.specs.Operation.{Make}
use Rattle.index_law.specs.Meanings.{lent_row}
use Rattle.forest_world.specs.Held.{shape_of_pass}
use Rattle.leaf_rows.specs.Setting.{SetsValue}
use Rattle.map_history.specs.Told.{columns_told}
use Rattle.buffer_pool.proofs.AgainLemmas.{passes_both}
use Rattle.leaf_changes.proofs.BackLemmas.{back_as, back_leaf, back_full, back_most, back_answers}
use Rattle.leaf_changes.proofs.CallLemmas.{can_refuse}
use Rattle.leaf_changes.proofs.HashedLemmas.{hash_again}
use Rattle.leaf_changes.proofs.HoldLemmas.{frame_again}
use Rattle.leaf_changes.proofs.MadeLemmas.{made_answers}
use Rattle.leaf_changes.proofs.RehashLemmas.{sets_rehashed}
use Rattle.leaf_changes.proofs.RowLemmas.{set_key, set_makes}
use Rattle.leaf_changes.proofs.tree_call.TreeCall.commit_set.Goals as goal

pub commit-requires-clause-held : goal.commit-requires-clause-held
commit-requires-clause-held g c = let held = c.requires.held in let call = c.args.self.now in
    let key = call.key.now.tuple in record {
      block = c.args.block;
      index = held.index;
      known = held.known;
      made = held.made;
      holds = held.holds;
      hash = held.hash;
      about = refl;
      makes = set_makes (shape_of_pass c.args.pass.now) call.index key held.known
          held.holds.leaf held.made c.args.value.now held.sets;
    }

pub shrink_row-requires-clause-held : goal.shrink_row-requires-clause-held
shrink_row-requires-clause-held g c = let held = c.requires.held in
    let full = c.in-Err.ensures.did in let p = c.args.pass.now in let q = c.commit.new.pass in
    let b = c.args.block in let terms = full.looks.quiet.adds.numbers.terms in record {
      index = held.index;
      known = held.known;
      now = held.made;
      key = c.args.self.now.key.now.tuple;
      value = c.args.value.now;
      sets = held.sets;
      has = frame_again p q b held.known held.made full.same terms held.holds.has;
      grew = held.grew;
      hash = hash_again p q full.same terms held.index b held.known held.made held.made held.hash;
    }

pub say_of_set-requires-clause-held : goal.say_of_set-requires-clause-held
say_of_set-requires-clause-held g c = let held = c.requires.held in let call = c.args.self.now in
    let i = call.index in let key = call.key.now.tuple in let value = c.args.value.now in
    let n = c.in-Err.field-0.0 in let full = c.in-Err.ensures.did in let p = c.args.pass.now in
    let q = c.commit.new.pass in let r = c.shrink_row.new.pass in let b = c.args.block in
    let out = c.shrink_row.ensures.back in let f = held.known in let m = held.made in
    let leaf = back_leaf p q r i b n key f m held.holds full out in
    let sets = subst (λ z. SetsValue z m key value)
    (back_as p q r i b n key f m held.holds full out)
    (sets_rehashed f out.leaf f m key value held.sets) in
    can_refuse r b i key out.leaf leaf (map.Set key value) n (lent_row None) refl
    (ap is_some (set_key (shape_of_pass r) i key out.leaf leaf.leaf m value sets))
    (back_full p q r i b n key f m held.holds full out)
    (back_most p q r i b n key f m held.holds full out)

pub returns-in-Ok-clause-did : goal.returns-in-Ok-clause-did
returns-in-Ok-clause-did g c = let held = c.requires.held in let call = c.args.self.now in
    let key = call.key.now.tuple in let p = c.args.pass.now in
    let makes = set_makes (shape_of_pass p) call.index key held.known held.holds.leaf held.made
    c.args.value.now held.sets in
    made_answers p c.commit.new.pass c.args.block call.index key held.index held.known held.made
    held.holds held.hash (map.Set key c.args.value.now) call.found c.made.result c.in-Ok.point
    (lent_row None) makes c.made.ensures c.in-Ok.ensures.did

pub returns-in-Err-clause-did : goal.returns-in-Err-clause-did
returns-in-Err-clause-did g c = let held = c.requires.held in let call = c.args.self.now in
    let key = call.key.now.tuple in
    back_answers c.args.pass.now c.commit.new.pass c.shrink_row.new.pass call.index c.args.block
    c.in-Err.field-0.0 key held.known held.made held.holds c.in-Err.ensures.did
    c.shrink_row.ensures.back c.say_of_set.new.pass (Make (map.Set key c.args.value.now))
    c.say_of_set.result (lent_row None) c.say_of_set.ensures.kept c.say_of_set.ensures.did

pub returns-in-Ok-clause-own : goal.returns-in-Ok-clause-own
returns-in-Ok-clause-own g c = c.commit.ensures.own

pub returns-in-Ok-clause-columns : goal.returns-in-Ok-clause-columns
returns-in-Ok-clause-columns g c = ap columns_told c.made.ensures

pub returns-in-Err-clause-own : goal.returns-in-Err-clause-own
returns-in-Err-clause-own g c = (
  passes_both c.args.pass.now c.commit.new.pass c.say_of_set.new.pass c.commit.ensures.own.0
      (passes_both c.commit.new.pass c.shrink_row.new.pass c.say_of_set.new.pass
      c.shrink_row.ensures.own.0 c.say_of_set.ensures.own.0),
  c.say_of_set.ensures.own.1,
)

pub returns-in-Err-clause-columns : goal.returns-in-Err-clause-columns
returns-in-Err-clause-columns g c = c.say_of_set.ensures.columns

pub shrink_row-requires-clause-own : goal.shrink_row-requires-clause-own
shrink_row-requires-clause-own g c = c.commit.ensures.own.1

pub say_of_set-requires-clause-own : goal.say_of_set-requires-clause-own
say_of_set-requires-clause-own g c = c.shrink_row.ensures.own.1
