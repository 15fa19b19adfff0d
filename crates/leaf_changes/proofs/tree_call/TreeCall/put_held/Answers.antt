use Rattle.std.proofs.Common.{None, ap, subst, ◌∙◌, sym, refl, is_none}
use Rattle.latch_space.specs.Passes.{view}
use Rattle.map_history.specs.Map as map
use Rattle.map_history.specs.Operation.{Make}
use Rattle.index_law.specs.Meanings.{lent_row}
use Rattle.forest_world.specs.Held.{shape_of_pass}
use Rattle.buffer_pool.proofs.AgainLemmas.{passes_both}
use Rattle.leaf_changes.specs.Changes.{FindsRow}
use Rattle.leaf_changes.proofs.CallLemmas.{can_duplicate, can_refuse}
use Rattle.leaf_changes.proofs.HashedLemmas.{hash_again}
use Rattle.leaf_changes.proofs.HoldLemmas.{frame_again, leaf_again}
use Rattle.leaf_changes.proofs.SettleLemmas.{known_again, parts_same, stays_both, stays_same}
use Rattle.leaf_changes.proofs.NumberLemmas.{number_stays, number_later, leaf_inside}
use Rattle.leaf_changes.proofs.RowLemmas.{found_old, found_new, has_key, lacks_key}
use Rattle.leaf_changes.proofs.TellLemmas.{looks_same, looks_then_says, said_holding}
use Rattle.leaf_changes.proofs.tree_call.TreeCall.put_held.Goals as goal

pub find_row-found-requires : goal.find_row-found-requires
find_row-found-requires g c = let hashed = c.requires.held in let held = hashed.fresh in
    let is = held.holds.leaf.page.is in record {
      page = is.page;
      paged = ap (λ f. f.page) (c.frame.ensures held.frame held.frame held.holds.has) ∙ is.paged;
      finds = held.finds;
    }

pub say-requires-clause-held : goal.say-requires-clause-held
say-requires-clause-held g c = let hashed = c.requires.held in let held = hashed.fresh in let call = c.args.self.now in
    let key = call.key.now.tuple in let leaf = c.args.leaf.now in let p = c.args.pass.now in
    let found = subst (λ f. FindsRow f key leaf.spot c.find_row-found.result)
    (c.frame.ensures held.frame held.frame held.holds.has) c.find_row-found.ensures in
    let old = found_old held.frame key leaf.spot c.find_row-found.result found
    (sym c.is_some.ensures ∙ c.if-is_some.true) in
    let has = has_key (shape_of_pass p) call.index key held.frame held.holds.leaf old.0
    old.1 in
    can_duplicate p leaf.block call.index key held.frame held.holds c.args.value.now has.0
    (lent_row None) has.1

pub returns-then-is_some-clause-ok : goal.returns-then-is_some-clause-ok
returns-then-is_some-clause-ok g c = let hashed = c.requires.held in let held = hashed.fresh in let call = c.args.self.now in
    let key = call.key.now.tuple in
    said_holding c.args.pass.now c.say.new.pass c.args.leaf.now.block call.index key held.frame
    (Make (map.Put key c.args.value.now)) c.say.result (lent_row None) held.holds held.known
    c.say.ensures.kept c.say.ensures.did

pub say-requires-then-is_full-clause-held : goal.say-requires-then-is_full-clause-held
say-requires-then-is_full-clause-held g c = let hashed = c.requires.held in let held = hashed.fresh in
    let call = c.args.self.now in let key = call.key.now.tuple in let leaf = c.args.leaf.now in
    let p = c.args.pass.now in let q = c.is_full.new.pass in
    let terms = c.is_full.ensures.looked.quiet.adds.numbers.terms in
    let found = subst (λ f. FindsRow f key leaf.spot c.find_row-found.result)
    (c.frame.ensures held.frame held.frame held.holds.has) c.find_row-found.ensures in
    let new = found_new held.frame key leaf.spot c.find_row-found.result found
    (sym c.is_some.ensures ∙ c.if-is_some.false) in
    let holds = leaf_again p q leaf.block call.index key held.frame held.frame
    c.is_full.ensures.kept terms held.holds in
    can_refuse q leaf.block call.index key held.frame holds (map.Put key c.args.value.now)
    c.args.most (lent_row None) refl
    (ap is_none (lacks_key (shape_of_pass q) call.index key held.frame holds.leaf
    leaf.spot new))
    (c.is_full.ensures.full.0 c.if-is_full.true)
    (c.requires.most ∙ (ap (λ t. t.max_changes) (sym c.requires.own.1)
    ∙ ap (λ t. t.max_changes) (sym terms)))

pub returns-then-is_full-clause-ok : goal.returns-then-is_full-clause-ok
returns-then-is_full-clause-ok g c = let hashed = c.requires.held in let held = hashed.fresh in let call = c.args.self.now in
    let key = call.key.now.tuple in let leaf = c.args.leaf.now in let p = c.args.pass.now in
    let q = c.is_full.new.pass in let r = c.say-then-is_full.new.pass in
    let terms = c.is_full.ensures.looked.quiet.adds.numbers.terms in
    let holds = leaf_again p q leaf.block call.index key held.frame held.frame
    c.is_full.ensures.kept c.is_full.ensures.looked.quiet.adds.numbers.terms held.holds in record {
      says = looks_then_says (view p) (view q) (view r) call.index
          (Make (map.Put key c.args.value.now)) c.say-then-is_full.result (lent_row None)
          c.is_full.ensures.looked c.say-then-is_full.ensures.did;
      holds = record {
        frame = held.frame;
        has = frame_again q r leaf.block held.frame held.frame c.say-then-is_full.ensures.kept
            c.say-then-is_full.ensures.did.once.adds.numbers.terms holds.has;
        inside = leaf_inside q leaf.block call.index key held.frame held.frame holds;
      };
      number = number_stays (view p) leaf.block held.frame held.holds.has.held;
      stays = stays_both p q r terms (parts_same (view p) (view q) c.is_full.ensures.kept.held terms)
          c.is_full.ensures.kept.count
          (stays_same q r c.say-then-is_full.ensures.kept
          c.say-then-is_full.ensures.did.once.adds.numbers.terms
          (known_again p q c.is_full.ensures.kept held.known));
    }

pub put_in-requires-clause-held : goal.put_in-requires-clause-held
put_in-requires-clause-held g c = let hashed = c.requires.held in let held = hashed.fresh in
    let call = c.args.self.now in let key = call.key.now.tuple in let leaf = c.args.leaf.now in
    let p = c.args.pass.now in let q = c.is_full.new.pass in
    let terms = c.is_full.ensures.looked.quiet.adds.numbers.terms in
    let found = subst (λ f. FindsRow f key leaf.spot c.find_row-found.result)
    (c.frame.ensures held.frame held.frame held.holds.has) c.find_row-found.ensures in record {
      index = held.frame.hashed;
      lacking = record {
        frame = held.frame;
        holds = leaf_again p q leaf.block call.index key held.frame held.frame
            c.is_full.ensures.kept terms held.holds;
        lacks = found_new held.frame key leaf.spot c.find_row-found.result found
            (sym c.is_some.ensures ∙ c.if-is_some.false);
      };
      hash = hash_again p q c.is_full.ensures.kept terms held.frame.hashed leaf.block held.frame
          held.frame held.frame hashed.hash;
      known = known_again p q c.is_full.ensures.kept held.known;
    }

pub returns-in-Ok-clause-ok : goal.returns-in-Ok-clause-ok
returns-in-Ok-clause-ok g c = let call = c.args.self.now in let key = call.key.now.tuple in
    let p = c.args.pass.now in let q = c.is_full.new.pass in let r = c.put_in.new.pass in
    let terms = c.is_full.ensures.looked.quiet.adds.numbers.terms in
    let same = c.put_in.ensures.same.view in
    let later = ap (λ v. v.terms) same ∙ terms in
    let held = ap (λ v. v.held) same ∙ c.is_full.ensures.kept.held in record {
      says = looks_then_says (view p) (view r) (view c.commit_put.new.pass) call.index
          (Make (map.Put key c.args.value.now)) c.commit_put.result (lent_row None)
          (looks_same (view p) (view q) (view r) call.index c.is_full.ensures.looked same)
          c.commit_put.ensures.did.says;
      holds = c.commit_put.ensures.did.holds;
      number = number_later p r c.args.leaf.now.block c.commit_put.ensures.did.holds.frame held later
          c.commit_put.ensures.did.number;
      stays = stays_both p r c.commit_put.new.pass later (parts_same (view p) (view r) held later)
          (c.put_in.ensures.same.count ∙ c.is_full.ensures.kept.count)
          c.commit_put.ensures.did.stays;
    }

pub returns-in-Err-clause-err : goal.returns-in-Err-clause-err
returns-in-Err-clause-err g c = let call = c.args.self.now in
    let p = c.args.pass.now in let q = c.is_full.new.pass in let r = c.put_in.new.pass in
    let terms = c.is_full.ensures.looked.quiet.adds.numbers.terms in
    let same = c.put_in.ensures.same.view in
    let later = ap (λ v. v.terms) same ∙ terms in record {
      looks = looks_same (view p) (view q) (view r) call.index c.is_full.ensures.looked same;
      holds = c.in-Err.ensures.err;
      number = (let refusing = c.in-Err.ensures.err in
          number_later p r c.args.leaf.now.block refusing.frame
          (ap (λ v. v.held) same ∙ c.is_full.ensures.kept.held) later
          (number_stays (view r) c.args.leaf.now.block refusing.frame refusing.holds.has.held));
      stays = record {
        known = c.in-Err.ensures.known;
        parts = parts_same (view p) (view r)
            (ap (λ v. v.held) same ∙ c.is_full.ensures.kept.held) later;
        count = c.put_in.ensures.same.count ∙ c.is_full.ensures.kept.count;
      };
    }

pub returns-then-is_some-clause-own : goal.returns-then-is_some-clause-own
returns-then-is_some-clause-own g c = c.say.ensures.own

pub returns-then-is_some-clause-columns : goal.returns-then-is_some-clause-columns
returns-then-is_some-clause-columns g c = c.say.ensures.columns

pub returns-then-is_full-clause-own : goal.returns-then-is_full-clause-own
returns-then-is_full-clause-own g c = (
  passes_both c.args.pass.now c.is_full.new.pass c.say-then-is_full.new.pass c.is_full.ensures.own.0
      c.say-then-is_full.ensures.own.0,
  c.say-then-is_full.ensures.own.1,
)

pub returns-then-is_full-clause-columns : goal.returns-then-is_full-clause-columns
returns-then-is_full-clause-columns g c = c.say-then-is_full.ensures.columns

pub returns-in-Ok-clause-own : goal.returns-in-Ok-clause-own
returns-in-Ok-clause-own g c = (
  passes_both c.args.pass.now c.is_full.new.pass c.commit_put.new.pass c.is_full.ensures.own.0
      (passes_both c.is_full.new.pass c.put_in.new.pass c.commit_put.new.pass c.put_in.ensures.own.0
      c.commit_put.ensures.own.0),
  c.commit_put.ensures.own.1,
)

pub returns-in-Ok-clause-columns : goal.returns-in-Ok-clause-columns
returns-in-Ok-clause-columns g c = c.commit_put.ensures.columns

pub returns-in-Err-clause-own : goal.returns-in-Err-clause-own
returns-in-Err-clause-own g c = (
  passes_both c.args.pass.now c.is_full.new.pass c.put_in.new.pass c.is_full.ensures.own.0
      c.put_in.ensures.own.0,
  c.put_in.ensures.own.1,
)

pub commit_put-requires-clause-held : goal.commit_put-requires-clause-held
commit_put-requires-clause-held g c = c.in-Ok.ensures.ok

pub commit_put-requires-clause-own : goal.commit_put-requires-clause-own
commit_put-requires-clause-own g c = c.put_in.ensures.own.1

pub put_in-requires-clause-own : goal.put_in-requires-clause-own
put_in-requires-clause-own g c = c.is_full.ensures.own.1

pub say-requires-then-is_full-clause-own : goal.say-requires-then-is_full-clause-own
say-requires-then-is_full-clause-own g c = c.is_full.ensures.own.1
