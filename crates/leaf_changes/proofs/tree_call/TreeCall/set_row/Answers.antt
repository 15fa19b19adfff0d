use Rattle.std.proofs.Common.{◌≡◌, None, ap, subst, ◌∙◌, sym, refl, is_some, length, ◌==◌, arith}
use Rattle.latch_space.specs.Passes.{view}
use Rattle.map_history.specs.Map as map
use Rattle.map_history.specs.Operation.{Make}
use Rattle.index_law.specs.Meanings.{lent_row}
use Rattle.forest_world.specs.Held.{shape_of_pass}
use Rattle.leaf_rows.specs.Changing.{HasSomeRow, HasRowOf}
use Rattle.leaf_rows.specs.Setting.{frame_with}
use Rattle.forest_world.proofs.HashHandLemmas.{one_frame}
use Rattle.leaf_rows.specs.Setting.{IsLongerValue}
use Rattle.buffer_pool.proofs.AgainLemmas.{passes_both}
use Rattle.leaf_changes.proofs.HashedLemmas.{hash_again}
use Rattle.leaf_changes.proofs.SetRowLemmas.{ok_later, err_later}
use Rattle.leaf_changes.proofs.SettleLemmas.{known_again, parts_same, stays_both, stays_same}
use Rattle.leaf_changes.proofs.CallLemmas.{can_refuse}
use Rattle.leaf_changes.proofs.ChangeLemmas.{frame_in_is}
use Rattle.leaf_changes.proofs.HoldLemmas.{frame_again, leaf_again}
use Rattle.leaf_changes.proofs.NumberLemmas.{number_stays, leaf_inside}
use Rattle.leaf_changes.proofs.RowLemmas.{has_key}
use Rattle.leaf_changes.proofs.SettingLemmas.{value_there, value_is}
use Rattle.leaf_changes.proofs.TellLemmas.{looks_then_says}
use Rattle.leaf_changes.proofs.tree_call.TreeCall.set_row.Goals as goal

pub value_len-before-requires : goal.value_len-before-requires
value_len-before-requires g c = let held = c.requires.held in
    subst (λ f. HasSomeRow f c.args.place)
    (sym (c.frame.ensures held.known held.known held.holds.has))
    (c.args.self.now.key.now.tuple, held.row.has)

pub set_in_place-requires-clause-held : goal.set_in_place-requires-clause-held
set_in_place-requires-clause-held g c = let held = c.requires.held in
    let value = c.args.value.now in let place = c.args.place in
    let key = c.args.self.now.key.now.tuple in
    let long = subst (λ f. (k : _) (has : HasRowOf f place k)
    → c.value_len-before.result ≡ length has.has.value)
    (c.frame.ensures held.known held.known held.holds.has) c.value_len-before.ensures in
    let bytes = ap length c.as_bytes.ensures.bytes in record {
      index = held.index;
      known = held.known;
      holds = held.holds;
      row = held.row;
      hash = held.hash;
      all = held.all;
      no_longer = λ k has. (let is = long k has in omega (arith, bytes));
      next_is = ap (λ f. frame_with place value (length value == length (value_there place f)) f)
          (frame_in_is c.args.pass.now c.args.block held.known held.known held.holds.has)
          ∙ ap (λ v. frame_with place value (length value == length v) held.known)
          (value_is held.known place key held.row.has);
    }

pub say_of_set-requires-clause-held : goal.say_of_set-requires-clause-held
say_of_set-requires-clause-held g c = let held = c.requires.held in
    let call = c.args.self.now in let key = call.key.now.tuple in let b = c.args.block in
    let p = c.args.pass.now in let q = c.is_full.new.pass in
    let terms = c.is_full.ensures.looked.quiet.adds.numbers.terms in
    let holds = leaf_again p q b call.index key held.known held.known
    c.is_full.ensures.kept terms held.holds in
    let has = has_key (shape_of_pass q) call.index key held.known holds.leaf c.args.place
    held.row in
    can_refuse q b call.index key held.known holds (map.Set key c.args.value.now)
    c.args.most (lent_row None) refl (ap is_some has.1)
    (c.is_full.ensures.full.0 c.if-is_full.true)
    (c.requires.most ∙ (ap (λ t. t.max_changes) (sym c.requires.own.1)
    ∙ ap (λ t. t.max_changes) (sym terms)))

pub returns-then-is_full-clause-ok : goal.returns-then-is_full-clause-ok
returns-then-is_full-clause-ok g c = let held = c.requires.held in let call = c.args.self.now in
    let key = call.key.now.tuple in let b = c.args.block in let p = c.args.pass.now in
    let q = c.is_full.new.pass in let r = c.say_of_set.new.pass in
    let holds = leaf_again p q b call.index key held.known held.known
    c.is_full.ensures.kept c.is_full.ensures.looked.quiet.adds.numbers.terms held.holds in record {
      says = looks_then_says (view p) (view q) (view r) call.index
          (Make (map.Set key c.args.value.now)) c.say_of_set.result (lent_row None)
          c.is_full.ensures.looked c.say_of_set.ensures.did;
      holds = record {
        frame = held.known;
        has = frame_again q r b held.known held.known c.say_of_set.ensures.kept
            c.say_of_set.ensures.did.once.adds.numbers.terms holds.has;
        inside = leaf_inside q b call.index key held.known held.known holds;
      };
      number = number_stays (view p) b held.known held.holds.has.held;
      stays = (let terms = c.is_full.ensures.looked.quiet.adds.numbers.terms in
          stays_both p q r terms
          (parts_same (view p) (view q) c.is_full.ensures.kept.held terms)
          c.is_full.ensures.kept.count
          (stays_same q r c.say_of_set.ensures.kept
          c.say_of_set.ensures.did.once.adds.numbers.terms
          (known_again p q c.is_full.ensures.kept held.all)));
    }

pub grow_row-requires-clause-held : goal.grow_row-requires-clause-held
grow_row-requires-clause-held g c = let held = c.requires.held in
    let call = c.args.self.now in let key = call.key.now.tuple in let p = c.args.pass.now in
    let q = c.is_full.new.pass in let kept = c.is_full.ensures.kept in
    let terms = c.is_full.ensures.looked.quiet.adds.numbers.terms in record {
      index = held.index;
      known = held.known;
      holds = leaf_again p q c.args.block call.index key held.known held.known kept terms held.holds;
      row = held.row;
      hash = hash_again p q kept terms held.index c.args.block held.known held.known held.known
          held.hash;
      all = known_again p q kept held.all;
    }

pub grow_row-requires-clause-longer : goal.grow_row-requires-clause-longer
grow_row-requires-clause-longer g c = λ f h there.
    (let held = c.requires.held in let p = c.args.pass.now in let q = c.is_full.new.pass in
    let long = subst (λ f. (k : _) (has : HasRowOf f c.args.place k)
    → c.value_len-before.result ≡ length has.has.value)
    (c.frame.ensures held.known held.known held.holds.has) c.value_len-before.ensures in
    let bytes = ap length c.as_bytes.ensures.bytes in
    let same = one_frame q c.args.block held.known held.known f h
    (frame_again p q c.args.block held.known held.known c.is_full.ensures.kept
    c.is_full.ensures.looked.quiet.adds.numbers.terms held.holds.has) there in
    subst (λ z. IsLongerValue z c.args.place c.args.value.now) same.0
    (λ k has. (let is = long k has in omega (arith, bytes))))

pub returns-clause-ok : goal.returns-clause-ok
returns-clause-ok g c = let call = c.args.self.now in
    ok_later c.args.pass.now c.is_full.new.pass c.grow_row.new.pass c.args.block call.index
    c.is_full.ensures.looked c.is_full.ensures.kept
    (Make (map.Set call.key.now.tuple c.args.value.now)) (lent_row None) c.grow_row.result
    c.grow_row.ensures.ok

pub returns-clause-err : goal.returns-clause-err
returns-clause-err g c = let call = c.args.self.now in
    err_later c.args.pass.now c.is_full.new.pass c.grow_row.new.pass c.args.block call.index
    c.is_full.ensures.looked c.is_full.ensures.kept call.key.now.tuple c.args.value.now
    c.grow_row.result c.grow_row.ensures.err

pub returns-then-as_bytes-before-clause-own : goal.returns-then-as_bytes-before-clause-own
returns-then-as_bytes-before-clause-own g c = c.set_in_place.ensures.own

pub returns-then-as_bytes-before-clause-ok : goal.returns-then-as_bytes-before-clause-ok
returns-then-as_bytes-before-clause-ok g c = c.set_in_place.ensures.did

pub returns-then-as_bytes-before-clause-columns : goal.returns-then-as_bytes-before-clause-columns
returns-then-as_bytes-before-clause-columns g c = c.set_in_place.ensures.columns

pub returns-then-is_full-clause-own : goal.returns-then-is_full-clause-own
returns-then-is_full-clause-own g c = (
  passes_both c.args.pass.now c.is_full.new.pass c.say_of_set.new.pass c.is_full.ensures.own.0
      c.say_of_set.ensures.own.0,
  c.say_of_set.ensures.own.1,
)

pub returns-then-is_full-clause-columns : goal.returns-then-is_full-clause-columns
returns-then-is_full-clause-columns g c = c.say_of_set.ensures.columns

pub returns-clause-own : goal.returns-clause-own
returns-clause-own g c = (
  passes_both c.args.pass.now c.is_full.new.pass c.grow_row.new.pass c.is_full.ensures.own.0
      c.grow_row.ensures.own.0,
  c.grow_row.ensures.own.1,
)

pub returns-clause-columns : goal.returns-clause-columns
returns-clause-columns g c = c.grow_row.ensures.columns

pub grow_row-requires-clause-own : goal.grow_row-requires-clause-own
grow_row-requires-clause-own g c = c.is_full.ensures.own.1

pub say_of_set-requires-clause-own : goal.say_of_set-requires-clause-own
say_of_set-requires-clause-own g c = c.is_full.ensures.own.1
