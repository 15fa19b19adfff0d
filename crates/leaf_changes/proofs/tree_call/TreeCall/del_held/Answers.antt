use Rattle.std.proofs.Common.{ap, subst, sym, ◌∙◌, None}
use Rattle.hash_maintain.specs.Leaves.{kept_frame}
use Rattle.buffer_pool.proofs.AgainLemmas.{passes_both}
use Rattle.leaf_changes.specs.Holds.{IsLeafOf}
use Rattle.leaf_changes.proofs.GoneLemmas.{answers_earlier}
use Rattle.leaf_changes.proofs.RehashLemmas.{has_row}
use Rattle.map_history.specs.Map as map
use Rattle.map_history.specs.Operation.{Make}
use Rattle.index_law.specs.Meanings.{lent_row}
use Rattle.leaf_rows.specs.Changing.{LacksRow, frame_without}
use Rattle.leaf_changes.specs.Changes.{HasOldRow}
use Rattle.leaf_changes.proofs.CallLemmas.{can_miss}
use Rattle.leaf_changes.proofs.ChangeLemmas.{frame_in_is}
use Rattle.leaf_changes.proofs.RowLemmas.{lacks_key}
use Rattle.leaf_changes.proofs.TellLemmas.{said_holding}
use Rattle.forest_world.specs.Held.{shape_of_pass}
use Rattle.leaf_changes.proofs.tree_call.TreeCall.del_held.Goals as goal

pub find_row-requires : goal.find_row-requires
find_row-requires g c = let held = c.requires.held.fresh in let is = held.holds.leaf.page.is in record {
  page = is.page;
  paged = ap (λ f. f.page) (c.frame.ensures held.frame held.frame held.holds.has) ∙ is.paged;
  finds = held.finds;
}

pub row_goes-requires-clause-held : goal.row_goes-requires-clause-held
row_goes-requires-clause-held g c = let held = c.requires.held.fresh in
    let key = c.args.self.now.key.now.tuple in
    let old = subst (λ f. HasOldRow f key c.in-Some.place)
    (c.frame.ensures held.frame held.frame held.holds.has) c.in-Some.ensures in record {
      index = held.frame.hashed;
      known = held.frame;
      now = held.frame;
      has = held.holds.has;
      row = has_row held.frame c.in-Some.place key old.has;
      hash = c.requires.held.hash;
    }

pub del_row-requires-clause-held : goal.del_row-requires-clause-held
del_row-requires-clause-held g c = let held = c.requires.held.fresh in
    let leaf = c.args.leaf.now in let call = c.args.self.now in
    let key = call.key.now.tuple in
    let kept = c.row_goes.ensures.kept held.frame.hashed held.frame held.frame held.holds.has
    c.requires.held.hash in record {
      index = held.frame.hashed;
      known = held.frame;
      answer = kept.answer;
      stays = kept.may_be;
      holds = record {
        has = kept.has;
        leaf = subst (λ v. IsLeafOf v.terms.shape call.index key held.frame) (sym kept.view)
            held.holds.leaf;
      };
      row = subst (λ f. HasOldRow f key c.in-Some.place)
          (c.frame.ensures held.frame held.frame held.holds.has) c.in-Some.ensures;
      next_is = ap (frame_without c.in-Some.place)
          (frame_in_is c.row_goes.new.pass leaf.block held.frame (kept_frame kept.answer held.frame)
          kept.has);
      hash = kept.hash;
    }

pub returns-in-Some-clause-did : goal.returns-in-Some-clause-did
returns-in-Some-clause-did g c = let held = c.requires.held.fresh in
    let call = c.args.self.now in let key = call.key.now.tuple in
    let kept = c.row_goes.ensures.kept held.frame.hashed held.frame held.frame held.holds.has
    c.requires.held.hash in
    answers_earlier c.args.pass.now c.row_goes.new.pass c.del_row.new.pass c.args.leaf.now.block
    call.index (Make (map.Del key)) c.del_row.result (lent_row None) kept.view kept.count
    c.del_row.ensures.did

pub say_of_del-requires-clause-held : goal.say_of_del-requires-clause-held
say_of_del-requires-clause-held g c = let held = c.requires.held.fresh in let leaf = c.args.leaf.now in
    let call = c.args.self.now in let key = call.key.now.tuple in let p = c.args.pass.now in
    can_miss p leaf.block call.index key held.frame held.holds (lent_row None)
    (lacks_key (shape_of_pass p) call.index key held.frame held.holds.leaf leaf.spot
    (subst (λ f. LacksRow f key leaf.spot)
    (c.frame.ensures held.frame held.frame held.holds.has) c.in-None.ensures))

pub returns-in-None-clause-did : goal.returns-in-None-clause-did
returns-in-None-clause-did g c = let held = c.requires.held.fresh in let call = c.args.self.now in
    let key = call.key.now.tuple in
    said_holding c.args.pass.now c.say_of_del.new.pass c.args.leaf.now.block call.index key
    held.frame (Make (map.Del key)) c.say_of_del.result (lent_row None) held.holds held.known
    c.say_of_del.ensures.kept c.say_of_del.ensures.did

pub returns-in-Some-clause-own : goal.returns-in-Some-clause-own
returns-in-Some-clause-own g c = (
  passes_both c.args.pass.now c.row_goes.new.pass c.del_row.new.pass c.row_goes.ensures.own.0
      c.del_row.ensures.own.0,
  c.del_row.ensures.own.1,
)

pub returns-in-Some-clause-columns : goal.returns-in-Some-clause-columns
returns-in-Some-clause-columns g c = c.del_row.ensures.columns

pub returns-in-None-clause-own : goal.returns-in-None-clause-own
returns-in-None-clause-own g c = c.say_of_del.ensures.own

pub returns-in-None-clause-columns : goal.returns-in-None-clause-columns
returns-in-None-clause-columns g c = c.say_of_del.ensures.columns

pub del_row-requires-clause-own : goal.del_row-requires-clause-own
del_row-requires-clause-own g c = c.row_goes.ensures.own.1
